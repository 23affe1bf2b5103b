-- What is told of lines, and of their replies.
use Rattle.std.proofs.Common.{◌≡◌, ◌≤◌, ℕ, Bool, true, false, cond, List, [], ◌∷◌, ◌++◌, map, drop, length}
use Rattle.std.proofs.Common.{◌+◌, ◌/◌, ap, subst, sum_by, sym, ◌∙◌, arith}
use Rattle.std.proofs.Common.{append-nil, length-append, length-drop, zero-add}
use mir.Val.{bool_byte}
use Rattle.outer_io.specs.declared.file_name.FileName.TheVariants.{Commit}
use Rattle.outer_io.specs.Files.{Files, bytes_of}
use Rattle.commit_list.specs.Commits.{CommitData}
use Rattle.commit_list.proofs.CommitPages.{one_file}
use Rattle.script_lang.specs.Requests.{Request}
use Rattle.run_status.specs.Told.{Teller, Tellings, TellsAll, TellsLines}
use Rattle.batch_run.specs.Copies.{IsCommitIn, copied_pages}
use Rattle.batch_run.specs.declared.queries.Reply.{Reply}
use Rattle.batch_queries.specs.Queries.{text_of_reply}
use Rattle.batch_queries.specs.Ends.{ReadsOnce}

-- the replies behind those to the requests of one line
pub replies_left : (f : Request → List ℕ) (left : List Reply) (asked more all : List Request) (n : ℕ) → length asked ≡ n → all ≡ asked ++ more
    → map text_of_reply left ≡ map f all → map text_of_reply (drop n left) ≡ map f more
replies_left f left asked more all n long is same =
    subst (λ (m : ℕ). map text_of_reply (drop m left) ≡ map f more) long
    (by asked left (same ∙ ap (λ (rs : List Request). map f rs) is))
  where
    by : (asked : List Request) (left : List Reply) → map text_of_reply left ≡ map f (asked ++ more) → map text_of_reply (drop (length asked) left) ≡ map f more
    by [] left same = same
    by (a ∷ asked) [] same = absurd cc
    by (a ∷ asked) (x ∷ left) same = by asked left cc

pub left_counted : (left : List Reply) (asked more all : List Request) (n : ℕ) → length asked ≡ n → all ≡ asked ++ more → length left ≡ length all
    → length (drop n left) ≡ length more
left_counted left asked more all n long is same =
    let cut = length-drop n left in
    let joined = ap length is ∙ length-append asked more in
    omega (arith, cut, joined, long, same)

-- a line that asks has one query
pub asks_byte : (b : Bool) (asked n : ℕ) → asked ≡ cond b 1 0 → n ≡ bool_byte b → asked ≡ n
asks_byte true asked n is byte = is ∙ sym byte
asks_byte false asked n is byte = is ∙ sym byte

-- after the last line all are told
pub all_told : (T : Teller) (lines rest : List (List ℕ)) (line refused : ℕ) (first now : List ℕ)
    → Tellings (Unit {0}) T (record { line = 1; refused = 0; rest = lines; written = first })
    (record { line = line; refused = refused; rest = rest; written = now })
    → rest ≡ [] → first ≡ [] → TellsAll (Unit {0}) T 1 lines [] now refused
all_told T lines rest line refused first now p none empty = record {
  of_lines = p.of_done;
  all = subst (λ (ls : List (List ℕ)). TellsLines T 1 ls p.of_done) (sym (p.whole ∙ ap (λ (ls : List (List ℕ)). p.done ++ ls) none ∙ append-nil p.done)) p.all;
  text = λ t. p.text t ∙ ap (λ (bs : List ℕ). bs ++ p.of_done.text) empty;
  count = sym (p.refused ∙ zero-add p.of_done.refused);
}

-- reading the commit and then what it lists reads each page once
pub reads_once : (files : Files) (c : CommitData) (before mid now : ℕ) → IsCommitIn files c
    → ((d : CommitData) → IsCommitIn files d → mid ≤ before + length (bytes_of (files Commit)) / 4096)
    → now ≤ mid + sum_by (copied_pages files) c.listed → ReadsOnce files before now
reads_once files c before mid now says first then d again =
    let few = first c says in
    let same : c ≡ d = one_file (bytes_of (files Commit)) c d says again in
    subst (λ (e : CommitData). now ≤ before + length (bytes_of (files Commit)) / 4096 + sum_by (copied_pages files) e.listed) same (omega (arith, few, then))
