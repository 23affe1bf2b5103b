-- How what is told of lines is joined to what was told of those before them.
use Rattle.std.proofs.Common.{◌≡◌, ◌≤◌, ◌+◌, ◌==◌, ℕ, suc, Bool, true, false, cond, List, [], ◌∷◌, ◌++◌, length, Result, Ok, Err, refl}
use Rattle.std.proofs.Common.{sym, ap, ◌∙◌, subst, append_assoc, append-nil, add_assoc, add-zero, zero-add, length-append, arith}
use Rattle.std.proofs.lemmas.Bool.Decides.{nat_tests}
use Rattle.outer_io.specs.Parts.{WritesPart}
use Rattle.page_cache.specs.declared.faults.PageFault.{PageFault}
use Rattle.page_cache.specs.declared.faults.PageFault.TheVariants as page
use Rattle.page_cache.specs.Evidence.{FaultShows}
use Rattle.run_status.specs.Told.{EndsLines, EndsTold, SendsLine, Stage, Tellings, TellsAll, TellsLines, TellsPart, TellsSome, Teller, Told}
use Rattle.run_status.specs.Told.{followed_by, silence}
use Rattle.run_status.specs.Ends.{IsDamaged}
use Rattle.run_status.specs.Stops.{status_of, stop_of}
use Rattle.run_status.specs.declared.stop.Stop.{Stop}
use Rattle.run_status.specs.declared.stop.Stop.TheVariants as stop
use Rattle.run_status.proofs.Ending.{counted}

pub step_length : (line : ℕ) (ls : List (List ℕ)) → line + 1 + length ls ≡ line + suc (length ls)
step_length line ls = omega arith

follow_assoc : (a b c : Told) → followed_by (followed_by a b) c ≡ followed_by a (followed_by b c)
follow_assoc a b c = λ i. record {
  text = append_assoc a.text b.text c.text i;
  refused = add_assoc a.refused b.refused c.refused i;
  touched = add_assoc a.touched b.touched c.touched i;
}

follow_silence : (a : Told) → followed_by silence a ≡ a
follow_silence a = λ i. record { text = a.text; refused = zero-add a.refused i; touched = zero-add a.touched i }

silence_follows : (a : Told) → followed_by a silence ≡ a
silence_follows a = λ i. record { text = append-nil a.text i; refused = add-zero a.refused i; touched = add-zero a.touched i }

-- ---- lists of lines

pub tells_append : (T : Teller) (line : ℕ) (xs ys : List (List ℕ)) (a b : Told) → TellsLines T line xs a → TellsLines T (line + length xs) ys b
    → TellsLines T line (xs ++ ys) (followed_by a b)
tells_append T line [] ys a b none more =
    subst (λ t. TellsLines T line ys t) (sym (ap (λ t. followed_by t b) none ∙ follow_silence b)) (subst (λ n. TellsLines T n ys b) (add-zero line) more)
tells_append T line (x ∷ xs) ys a b (first, rest, one, others, is) more = (
  first,
  followed_by rest b,
  one,
  tells_append T (line + 1) xs ys rest b others (subst (λ n. TellsLines T n ys b) (sym (step_length line xs)) more),
  ap (λ t. followed_by t b) is ∙ follow_assoc first rest b,
)

pub one_line : (T : Teller) (line : ℕ) (x : List ℕ) (t : Told) → T line x t → TellsLines T line (x ∷ []) t
one_line T line x t one = (t, silence, one, refl, sym (silence_follows t))

-- ---- stages

pub stage_here : (told : Type 0) (T : Teller) (a : Stage) → Tellings told T a a
stage_here told T a =
    record {
      done = [];
      whole = refl;
      line = sym (add-zero a.line);
      of_done = silence;
      all = refl;
      refused = sym (add-zero a.refused);
      text = λ t. sym
          (append-nil a.written);
    }

-- one line more was told
pub stage_on : (told : Type 0) (T : Teller) (a b c : Stage) (x : List ℕ) (t : Told) → Tellings told T a b → b.rest ≡ x ∷ c.rest → c.line ≡ b.line + 1
    → T b.line x t → c.refused ≡ b.refused + t.refused
    → (told → c.written ≡ b.written ++ t.text) → Tellings told T a c
stage_on told T a b c x t p rest line one refused text = record {
  done = p.done ++ x ∷ [];
  whole = p.whole ∙ ap (λ ls. p.done ++ ls) rest ∙ sym (append_assoc p.done (x ∷ []) c.rest);
  line = let long = length-append p.done (x ∷ []) in omega (arith, p.line, line, long);
  of_done = followed_by p.of_done t;
  all = tells_append T a.line p.done (x ∷ []) p.of_done t p.all (one_line T (a.line + length p.done) x t (subst (λ n. T n x t) p.line one));
  refused = refused ∙ ap (λ n. n + t.refused) p.refused ∙ add_assoc a.refused p.of_done.refused t.refused;
  text = λ h. text h ∙ ap (λ bs. bs ++ t.text) (p.text h) ∙ append_assoc a.written p.of_done.text t.text;
}

-- where no line is left, all lines were told
pub stage_all : (told : Type 0) (T : Teller) (a b : Stage) (new : List ℕ) → Tellings told T a b → b.rest ≡ [] → (told → new ≡ b.written)
    → EndsLines told T a.line a.refused a.rest a.written new (Ok b.refused)
stage_all told T a b new p none text = (
  p.of_done.refused,
  p.refused,
  record {
    of_lines = p.of_done;
    all = subst (λ ls. TellsLines T a.line ls p.of_done) (sym (p.whole ∙ ap (λ ls. p.done ++ ls) none ∙ append-nil p.done)) p.all;
    text = λ h. text h ∙ p.text h;
    count = refl;
  },
)

-- a run that stops here has told some of the lines
pub stage_stops : (told : Type 0) (T : Teller) (a b : Stage) (new : List ℕ) → Tellings told T a b → (told → new ≡ b.written)
    → TellsSome told T a.line a.rest a.written new
stage_stops told T a b new p text = record { done = p.done; rest = b.rest; whole = p.whole; of_done = p.of_done; all = p.all; text = λ h. text h ∙ p.text h }

-- the sink failed at the next line
pub stage_breaks : (told : Type 0) (T : Teller) (a b : Stage) (x : List ℕ) (rest : List (List ℕ)) (t : Told) (new : List ℕ) → Tellings told T a b
    → b.rest ≡ x ∷ rest → T b.line x t
    → (told → WritesPart b.written new t.text) → TellsPart told T a.line a.rest a.written new
stage_breaks told T a b x rest t new p is one text = record {
  done = p.done;
  at = x;
  rest = rest;
  whole = p.whole ∙ ap (λ ls. p.done ++ ls) is;
  of_done = p.of_done;
  of_at = t;
  all = p.all;
  tells_at = subst (λ n. T n x t) p.line one;
  text = λ h. subst (λ bs. WritesPart bs new t.text) (p.text h) (text h);
}

-- it stops at a line for what that answers
pub line_stops : (told : Type 0) (T : Teller) (a b : Stage) (x : List ℕ) (rest : List (List ℕ)) (new : List ℕ) (e : Stop) → Tellings told T a b
    → b.rest ≡ x ∷ rest
    → SendsLine told T b.line x b.written new (Err e) → EndsLines told T a.line a.refused a.rest a.written new (Err e)
line_stops told T a b x rest new stop.FolderFault p is h = stage_stops told T a b new p h
line_stops told T a b x rest new stop.Memory p is h = stage_stops told T a b new p h
line_stops told T a b x rest new stop.SinkFault p is (t, one, text) = stage_breaks told T a b x rest t new p is one text
line_stops told T a b x rest new (stop.Damaged d) p is h = absurd h

-- ---- the status

told_counted : (told : Type 0) (T : Teller) (lines : List (List ℕ)) (old new : List ℕ) (b : Bool) (count n : ℕ) → (count == 0) ≡ b → count ≡ 0 + n
    → TellsAll told T 1 lines old new n → EndsTold told T lines old new (counted b count)
told_counted told T lines old new true count n test is all =
    let zero_is : n ≡ 0 = grind (arith, nat_tests) in subst (TellsAll told T 1 lines old new) zero_is all
told_counted told T lines old new false count n test is all =
    let some_is : 1 ≤ count = grind (arith, nat_tests) in (some_is, subst (TellsAll told T 1 lines old new) (sym (is ∙ zero-add n)) all)

pub told_ends : (told : Type 0) (T : Teller) (lines : List (List ℕ)) (old new : List ℕ) (done : Result ℕ Stop) → EndsLines told T 1 0 lines old new done
    → EndsTold told T lines old new (status_of done)
told_ends told T lines old new (Ok count) (n, is, all) = told_counted told T lines old new (count == 0) count n refl is all
told_ends told T lines old new (Err stop.FolderFault) h = h
told_ends told T lines old new (Err stop.Memory) h = h
told_ends told T lines old new (Err stop.SinkFault) h = h
told_ends told T lines old new (Err (stop.Damaged damage)) h = h

-- no end of explaining is damage
pub told_undamaged : (told : Type 0) (T : Teller) (line refused : ℕ) (lines : List (List ℕ)) (old new : List ℕ) (done : Result ℕ Stop)
    → EndsLines told T line refused lines old new done → IsDamaged (status_of done) → ⊥
told_undamaged told T line refused lines old new (Ok count) h d = by (count == 0) d
  where
    by : (b : Bool) → IsDamaged (counted b count) → ⊥
    by true d = d
    by false d = d
told_undamaged told T line refused lines old new (Err stop.FolderFault) h d = d
told_undamaged told T line refused lines old new (Err stop.Memory) h d = d
told_undamaged told T line refused lines old new (Err stop.SinkFault) h d = d
told_undamaged told T line refused lines old new (Err (stop.Damaged damage)) h d = h

-- ---- one line

single : (T : Teller) (line : ℕ) (x : List ℕ) (a : Told) → TellsLines T line (x ∷ []) a → T line x a
single T line x a (first, rest, one, none, is) = subst (λ t. T line x t) (sym (is ∙ ap (followed_by first) none ∙ silence_follows first)) one

-- one line more was told, as it was sent
pub stage_sent : (told : Type 0) (T : Teller) (a b c : Stage) (x : List ℕ) (is_refused : Bool) → Tellings told T a b → b.rest ≡ x ∷ c.rest → c.line ≡ b.line + 1
    → c.refused ≡ b.refused + cond is_refused 1 0
    → SendsLine told T b.line x b.written c.written (Ok is_refused) → Tellings told T a c
stage_sent told T a b c x is_refused p rest line refused all =
    stage_on told T a b c x all.of_lines p rest line (single T b.line x all.of_lines all.all) (refused ∙ ap (λ n. b.refused + n) (sym all.count)) all.text

-- where nothing was written, no line was told
pub none_told : (told : Type 0) (T : Teller) (line : ℕ) (lines : List (List ℕ)) (old new : List ℕ) → new ≡ old → TellsSome told T line lines old new
none_told told T line lines old new same =
    record { done = []; rest = lines; whole = refl; of_done = silence; all = refl; text = λ t. same ∙ sym (append-nil old) }

pub unread_ends : (told : Type 0) (T : Teller) (line refused : ℕ) (lines : List (List ℕ)) (old new : List ℕ) (fault : PageFault) → FaultShows (λ _. ⊥) fault
    → (r : Result ℕ Stop) → r ≡ Err (stop_of fault)
    → new ≡ old → EndsLines told T line refused lines old new r
unread_ends told T line refused lines old new page.Failed whole r is same =
    subst (EndsLines told T line refused lines old new) (sym is) (none_told told T line lines old new same)
unread_ends told T line refused lines old new page.Memory whole r is same =
    subst (EndsLines told T line refused lines old new) (sym is) (none_told told T line lines old new same)
unread_ends told T line refused lines old new (page.Damaged d) whole r is same = absurd whole

-- ---- the leaves that are left to touch

-- of lines that touch so many leaves, what the lines that are left touch still fits
pub record Left (T : Teller) (line : ℕ) (rest : List (List ℕ)) (before now all : ℕ) : Type 0 where
  pub told : Told
  pub tells : TellsLines T line rest told
  pub fits : now + told.touched ≤ before + all

pub left_here : (T : Teller) (line : ℕ) (lines : List (List ℕ)) (now : ℕ) (t : Told) → TellsLines T line lines t → Left T line lines now now t.touched
left_here T line lines now t tells = record { told = t; tells = tells; fits = omega arith }

left_split : (T : Teller) (line : ℕ) (x : List ℕ) (more : List (List ℕ)) (before now new all : ℕ) (t : Told) → TellsLines T line (x ∷ more) t
    → now + t.touched ≤ before + all
    → ((u : Told) → T line x u → new ≤ now + u.touched) → Left T (line + 1) more before new all
left_split T line x more before now new all t (first, others, one, tells, is) fits reads = record {
  told = others;
  tells = tells;
  fits = let few = reads first one in let same = ap (λ (u : Told). u.touched) is in omega (arith, fits, few, same);
}

pub left_on : (T : Teller) (line : ℕ) (rest : List (List ℕ)) (x : List ℕ) (more : List (List ℕ)) (before now new all : ℕ) → rest ≡ x ∷ more
    → Left T line rest before now all
    → ((u : Told) → T line x u → new ≤ now + u.touched) → Left T (line + 1) more before new all
left_on T line rest x more before now new all is left reads =
    left_split T line x more before now new all left.told (subst (λ ls. TellsLines T line ls left.told) is left.tells) left.fits reads

pub left_end : (T : Teller) (line : ℕ) (rest : List (List ℕ)) (before now all : ℕ) → Left T line rest before now all → now ≤ before + all
left_end T line rest before now all left = omega (arith, left.fits)
