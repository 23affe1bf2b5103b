-- What becomes of a command, by what the call on the set answered.
use Rattle.std.specs.Prelude.{ℕ, List, take, Result, Ok, Err}
use Rattle.page_cache.specs.declared.faults.PageFault.{PageFault}
use Rattle.page_cache.specs.declared.faults.PageFault.TheVariants as page
use Rattle.script_lang.specs.declared.faults.Refusal.TheVariants as why
use Rattle.index_model.specs.declared.session.Applied.{Applied}
use Rattle.index_model.specs.declared.session.Applied.TheVariants as applied
use Rattle.segment_set.specs.declared.faults.AddFault.{AddFault}
use Rattle.segment_set.specs.declared.faults.AddFault.TheVariants as add
use Rattle.segment_set.specs.declared.faults.BeginFault.{BeginFault}
use Rattle.segment_set.specs.declared.faults.BeginFault.TheVariants as begin
use Rattle.segment_set.specs.declared.faults.EndFault.{EndFault}
use Rattle.segment_set.specs.declared.faults.EndFault.TheVariants as end
use Rattle.segment_set.specs.declared.faults.SnapFault.{SnapFault}
use Rattle.segment_set.specs.declared.faults.SnapFault.TheVariants as snap

abbrev pub add_answer : Result ℕ AddFault → Result Applied PageFault
add_answer (Ok number) = Ok applied.Done
add_answer (Err add.Full) = Ok (applied.Refused why.Full)
add_answer (Err add.Failed) = Err page.Failed
add_answer (Err (add.Damaged d)) = Err (page.Damaged d)
add_answer (Err add.Memory) = Err page.Memory

abbrev pub begin_answer : {T : Type 0} → Result T BeginFault → Result Applied PageFault
begin_answer (Ok done) = Ok applied.Done
begin_answer (Err begin.Begun) = Ok (applied.Refused why.Begun)
begin_answer (Err begin.Failed) = Err page.Failed
begin_answer (Err (begin.Damaged d)) = Err (page.Damaged d)
begin_answer (Err begin.Memory) = Err page.Memory

abbrev pub end_answer : {T : Type 0} → Result T EndFault → Result Applied PageFault
end_answer (Ok done) = Ok applied.Done
end_answer (Err end.NotBegun) = Ok (applied.Refused why.NotBegun)
end_answer (Err end.Failed) = Err page.Failed
end_answer (Err (end.Damaged d)) = Err (page.Damaged d)
end_answer (Err end.Memory) = Err page.Memory

abbrev pub snap_answer : {T : Type 0} → Result T SnapFault → Result Applied PageFault
snap_answer (Ok done) = Ok applied.Done
snap_answer (Err snap.Taken) = Ok (applied.Refused why.NameTaken)
snap_answer (Err snap.TooMany) = Ok (applied.Refused why.TooManySnapshots)
snap_answer (Err snap.Memory) = Err page.Memory

-- the text after a reply was written: cut to its length of before, where the command is refused
abbrev pub text_after : Result Applied PageFault → (before : ℕ) → List ℕ → List ℕ
text_after (Ok applied.Done) before text = text
text_after (Ok (applied.Refused why)) before text = take before text
text_after (Err fault) before text = text
