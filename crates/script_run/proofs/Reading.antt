-- Lines that are read one after the other: those so far, with whichever others behind them.
use Rattle.std.proofs.Common.{◌≡◌, ◌+◌, ◌%◌, ◌==◌, ℕ, Bool, true, false, cond, if◌then◌else◌, Option, None, List}
use Rattle.std.proofs.Common.{[], ◌∷◌, ◌++◌, Some, Result, Ok, Err, refl, sym, ap, ◌∙◌, subst, append_assoc}
use Rattle.outer_io.specs.Files.{Files}
use Rattle.std.proofs.lemmas.Bool.{false≢true}
use Rattle.script_lang.specs.Lines.{lines_of, words_of}
use Rattle.index_model.specs.State.{Index, State}
use Rattle.line_source.specs.Reader.{Gives, GivesLine, IsUnread, KnowsEnd, kept_bytes, lines_left}
use Rattle.line_source.specs.declared.reader.LineReader.{LineReader}
use Rattle.line_source.proofs.Kept.{kept_reads, kept_text}
use Rattle.range_docs.specs.Reading.{as_points, from_part, if_blank, range_read, read_range_words}
use Rattle.range_docs.specs.Seen.{request_in}
use Rattle.stored_index.specs.Kept.{SameKept}
use Rattle.stored_index.proofs.KeptFiles.{kept_after, kept_itself}
use Rattle.run_status.specs.declared.stop.Stop.{Stop}
use Rattle.run_status.specs.declared.stop.Stop.TheVariants as stop
use Rattle.script_run.specs.LineAnswers.{SendsReply, IsEnd, IsSessionOf}
use Rattle.script_run.specs.Costs.{NoneCommits, asks_commit}
use Rattle.script_run.specs.Halted.{OfLines, OfSource, halt_result}
use Rattle.script_run.specs.declared.halt.Halt.{Halt}
use Rattle.script_run.specs.Leads.{Closes, Leads, Passes, LineMoment}
use Rattle.script_run.specs.Runs.{EndsLines, Halts}
use Rattle.script_run.proofs.Leading.{Led, led_breaks, led_ends, led_first, led_on, led_stops}
use Rattle.script_run.proofs.SoFar.{Goes, end_lines, ends_then, goes_first, goes_on, halts_at, line_at, memory_at, place_on, stops_at}
use Rattle.script_run.specs.Languages.{line_request, meaning, read_in}
use Rattle.script_run.specs.declared.language.Language.{Language}
use Rattle.script_run.specs.declared.language.Language.TheVariants.{Points, Ranges}

-- what is kept of a line of ranges reads as it does
kept_ranges : (dims : Option ℕ) (line : List ℕ) → range_read dims (kept_bytes line) ≡ range_read dims line
unfolding range_read
kept_ranges None line = ap (λ text. from_part text (λ words. read_range_words None (words_of words))) (kept_text line)
kept_ranges (Some dims) line =
    (λ i. if dims % 2 == 0 then from_part (kept_text line i) (λ words. read_range_words (Some dims) (words_of words)) else if_blank (kept_reads None line i))

kept_heard : (lang : Language) (dims : Option ℕ) (line : List ℕ) → line_request lang dims (kept_bytes line) ≡ line_request lang dims line
unfolding read_in
kept_heard Points dims line = ap (λ r. request_in (as_points r)) (kept_reads dims line)
kept_heard Ranges dims line = ap request_in (kept_ranges dims line)

-- what is kept of a line reads as it does
pub reads_alike : (lang : Language) (dims : Option ℕ) (line bytes text : List ℕ) → bytes ≡ kept_bytes line → text ≡ bytes
    → line_request lang dims line ≡ line_request lang dims text
reads_alike lang dims line bytes text are is = sym (kept_heard lang dims line) ∙ ap (line_request lang dims) (sym are) ∙ ap (line_request lang dims) (sym is)

-- ---- what was read

-- a line was given, or there was none
pub gives_line : (told : Type 0) (old : LineReader) (left : List ℕ) (new : LineReader) (now bytes : List ℕ) (b : Bool) → b ≡ true
    → Gives told old left new now bytes (Ok b) → GivesLine told old left new now bytes
gives_line told old left new now bytes b is h = subst (λ (b : Bool). Gives told old left new now bytes (Ok b)) is h

pub gives_none : (told : Type 0) (old : LineReader) (left : List ℕ) (new : LineReader) (now bytes : List ℕ) (b : Bool) → b ≡ false
    → Gives told old left new now bytes (Ok b)
    → told → KnowsEnd old left → (lines_left old left ≡ []) × (now ≡ [])
gives_none told old left new now bytes b is h = subst (λ (b : Bool). Gives told old left new now bytes (Ok b)) is h

-- these lines were read; where the source tells its bytes they are the first ones, and the others are left
pub record HasRead (told : Type 0) (old : LineReader) (before : List ℕ) (new : LineReader) (now : List ℕ) : Type 0 where
  pub lines : List (List ℕ)
  pub whole : told → KnowsEnd old before → lines_left old before ≡ lines ++ lines_left new now
  pub ended : told → KnowsEnd old before → KnowsEnd new now

abbrev pub none_read : (told : Type 0) (r : LineReader) (left : List ℕ) → HasRead told r left r left
none_read told r left = record { lines = []; whole = λ t knows. refl; ended = λ t knows. knows }

module _ (told : Type 0) (old : LineReader) (before : List ℕ) (r : LineReader) (left : List ℕ) (so_far : HasRead told old before r left) where
  abbrev pub one_read : (new : LineReader) (now bytes : List ℕ) → GivesLine told r left new now bytes → HasRead told old before new now
  one_read new now bytes gives = record {
    lines = so_far.lines ++ gives.line ∷ [];
    whole = λ t knows. so_far.whole t knows ∙ ap (λ ls. so_far.lines ++ ls) (gives.first t (so_far.ended t knows))
        ∙ sym (append_assoc so_far.lines (gives.line ∷ []) (lines_left new now));
    ended = λ t knows. gives.ended t (so_far.ended t knows);
  }

  -- the lines are those so far and the ones that are left
  pub of_left : (P : List (List ℕ) → Type 0) → P (so_far.lines ++ lines_left r left) → OfLines told old before P
  of_left P h = (so_far.lines ++ lines_left r left, λ t knows. sym (so_far.whole t knows), h)

  pub of_line : (P : List (List ℕ) → Type 0) (new : LineReader) (now bytes : List ℕ) (gives : GivesLine told r left new now bytes)
      → P (so_far.lines ++ gives.line ∷ lines_left new now) → OfLines told old before P
  of_line P new now bytes gives h = (
    so_far.lines ++ gives.line ∷ lines_left new now,
    λ t knows. sym (so_far.whole t knows ∙ ap (λ ls. so_far.lines ++ ls) (gives.first t (so_far.ended t knows))),
    h,
  )

  pub of_all : (P : List (List ℕ) → Type 0) (new : LineReader) (now : List ℕ) → (told → KnowsEnd r left → (lines_left r left ≡ []) × (now ≡ []))
      → P (so_far.lines ++ []) → OfLines told old before P
  of_all P new now none h = (so_far.lines ++ [], λ t knows. sym (so_far.whole t knows ∙ ap (λ ls. so_far.lines ++ ls) (none t (so_far.ended t knows)).0), h)

  -- the rest of the lines is done by another call
  pub of_rest : (P Q : List (List ℕ) → Type 0) → ((ls : List (List ℕ)) → P ls → Q (so_far.lines ++ ls)) → OfLines told r left P → OfLines told old before Q
  of_rest P Q f (lines, are, h) =
      (so_far.lines ++ lines, λ t knows. ap (λ ls. so_far.lines ++ ls) (are t (so_far.ended t knows)) ∙ sym (so_far.whole t knows), f lines h)

-- a reader that has read nothing has the source's lines
pub new_knows : (r : LineReader) (left : List ℕ) → IsUnread r → KnowsEnd r left
new_knows r left new e = absurd (false≢true (sym new.1 ∙ e))

pub new_reader : (told : Type 0) (r : LineReader) (left : List ℕ) (P : List (List ℕ) → Type 0) → IsUnread r → OfLines told r left P → OfSource told left P
new_reader told r left P new (lines, are, h) = (lines, λ t. are t (new_knows r left new) ∙ ap (λ b. lines_of (b ++ left)) new.0, h)

-- the same lines, of which more is known
pub of_same : (told : Type 0) (r : LineReader) (left : List ℕ) (P Q : List (List ℕ) → Type 0) → ((ls : List (List ℕ)) → P ls → Q ls) → OfLines told r left P
    → OfLines told r left Q
of_same told r left P Q f (lines, are, h) = (lines, are, f lines h)

-- what holds of any lines holds of those that are left
pub of_any : (told : Type 0) (r : LineReader) (left : List ℕ) (P : List (List ℕ) → Type 0) → ((ls : List (List ℕ)) → P ls) → OfLines told r left P
of_any told r left P h = (lines_left r left, λ t knows. refl, h (lines_left r left))

-- ---- lines in a session

-- from a place on the lines so far were done, and more are left
pub record Going (lang : Language) (told : Type 0) (D line0 refused0 : ℕ) (i : Index) (stored : State) (written0 : List ℕ) (start : LineMoment)
    (lines : List (List ℕ)) (now : LineMoment) (line refused : ℕ) (more : List (List ℕ)) (written : List ℕ) : Type 0 where
  pub goes : Goes lang told D (place_on line0 refused0 i stored lines written0) now.files now.session line refused more written
  pub led : Led lang D line0 i lines start line goes.index more now

pub going_first : (lang : Language)
    → (told : Type 0) (D line refused : ℕ) (i : Index) (stored : State) (written : List ℕ) (s : LineMoment) (more : List (List ℕ))
    → IsSessionOf D s.files s.session i stored
    → Going lang told D line refused i stored written s more s line refused more written
going_first lang told D line refused i stored written s more h = record {
  goes = goes_first lang D s.files s.session i stored line refused more written h;
  led = led_first lang D line i more s;
}

module _ (lang : Language) (told : Type 0) (D line0 refused0 : ℕ) (i : Index) (stored : State) (written0 : List ℕ) (start : LineMoment) (lines : List (List ℕ))
    (now : LineMoment) (line refused : ℕ) (written : List ℕ) where
  module _ (bytes : List ℕ) (more : List (List ℕ)) (g : Going lang told D line0 refused0 i stored written0 start lines now line refused (bytes ∷ more) written)
      (new : LineMoment) (after : List ℕ) where
    pub going_on : (is_refused : Bool) (count : ℕ) → count ≡ refused + cond is_refused 1 0
        → SendsReply lang told D (line_at line g.goes.index g.goes.stored bytes) new.files new.session written after (Ok is_refused)
        → Passes {T = Bool} {E = Stop} lang D line g.goes.index bytes now new (Ok is_refused)
        → Going lang told D line0 refused0 i stored written0 start lines new (line + 1) count more after
    going_on is_refused count counted answers passes = record {
      goes = goes_on {told = told} lang D (place_on line0 refused0 i stored lines written0) now.files new.files now.session new.session line refused
          (bytes ∷ more) written after g.goes bytes more refl is_refused count counted answers;
      led = led_on lang D line0 i lines start line g.goes.index (bytes ∷ more) now g.led bytes more refl new is_refused passes answers.0.index answers.0.state;
    }

    pub going_stops : {E : Type 0} (e : Stop) (d : E)
        → SendsReply lang told D (line_at line g.goes.index g.goes.stored bytes) new.files new.session written after (Err e)
        → Passes {T = Bool} {E = Stop} lang D line g.goes.index bytes now new (Err e)
        → EndsLines (meaning lang) told (place_on line0 refused0 i stored lines written0) new.files after (Err e)
        × Leads {T = ℕ} lang line0 i lines start new (Err d)
    going_stops e d answers passes = (
      stops_at {told = told} lang D (place_on line0 refused0 i stored lines written0) now.files new.files now.session new.session line refused (bytes ∷ more)
          written after g.goes bytes more refl e answers,
      led_stops lang D line0 i lines start line g.goes.index (bytes ∷ more) now g.led bytes more refl new e d passes,
    )

  module _ (more : List (List ℕ)) (g : Going lang told D line0 refused0 i stored written0 start lines now line refused more written) where
    pub going_halts : {E : Type 0} (d : E)
        → Halts (meaning lang) told (place_on line0 refused0 i stored lines written0) now.files written × Leads {T = ℕ} lang line0 i lines start now (Err d)
    going_halts d = (
      halts_at {told = told} lang D (place_on line0 refused0 i stored lines written0) now.files now.files now.session now.session line refused more written
          written g.goes,
      led_breaks lang D line0 i lines start line g.goes.index more now g.led d,
    )

    pub going_wants : {E : Type 0} (d : E)
        → EndsLines (meaning lang) told (place_on line0 refused0 i stored lines written0) now.files written (Err stop.Memory)
        × Leads {T = ℕ} lang line0 i lines start now (Err d)
    going_wants d = (
      memory_at {told = told} lang D (place_on line0 refused0 i stored lines written0) now.files now.files now.session now.session line refused more written
          written g.goes,
      led_breaks lang D line0 i lines start line g.goes.index more now g.led d,
    )

  -- no line is left, so the session is closed and the run ends
  pub going_ends : {E : Type 0} (g : Going lang told D line0 refused0 i stored written0 start lines now line refused [] written) (new : LineMoment)
      (done : Result ℕ Stop) (result : Result ℕ E)
      → IsEnd new.files g.goes.index g.goes.stored refused done → Closes D g.goes.index now new result
      → EndsLines (meaning lang) told (place_on line0 refused0 i stored lines written0) new.files written done × Leads lang line0 i lines start new result
  going_ends g new done result end closes = (
    ends_then {told = told} lang D (place_on line0 refused0 i stored lines written0) now.files now.session line refused [] written g.goes refl new.files done
        (end_lines lang told new.files g.goes.index g.goes.stored line refused written done end),
    led_ends lang D line0 i lines start line g.goes.index [] now g.led g.goes.stands.seen new result closes,
  )

-- what was committed is so for lines that come from a source
pub closes_halted : {T : Type 0} (D : ℕ) (i : Index) (old new : LineMoment) (done : Result T Stop) (result : Result T Halt) → result ≡ halt_result done
    → Closes D i old new done → Closes D i old new result
closes_halted {T} D i old new done result is h = subst (Closes D i old new) (sym is) (by_done done h)
  where
    by_done : (done : Result T Stop) → Closes D i old new done → Closes D i old new (halt_result done)
    by_done (Ok x) h = record { canon = h.canon; levels = h.levels; still = h.still; reads = h.reads }
    by_done (Err s) h = record { canon = λ first s listed brings. tt; levels = λ rested. tt; still = h.still; reads = h.reads }

-- lines of which none commits were read, and the files keep what they kept
pub record Quiet (lang : Language) (D : ℕ) (lines : List (List ℕ)) (old now : Files) : Type 0 where
  pub kept : (more : List (List ℕ)) → NoneCommits lang D (lines ++ more) → SameKept old now × NoneCommits lang D more

pub quiet_first : (lang : Language) → (D : ℕ) (files : Files) → Quiet lang D [] files files
quiet_first lang D files = record { kept = λ more quiet. (kept_itself files, quiet) }

pub quiet_on : (lang : Language) → (D : ℕ) (lines : List (List ℕ)) (line : List ℕ) (old now new : Files) → Quiet lang D lines old now
    → (asks_commit (line_request lang (Some D) line) ≡ false → SameKept now new) → Quiet lang D (lines ++ line ∷ []) old new
quiet_on lang D lines line old now new q same = record {
  kept = λ more quiet.
      let next = q.kept (line ∷ more) (subst (NoneCommits lang D) (append_assoc lines (line ∷ []) more) quiet) in
      (kept_after old now new next.0 (same next.1.0), next.1.1);
}
