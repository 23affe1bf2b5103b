-- How the words of a grid are read, and that no line of counts fails for want of memory.
use Rattle.std.proofs.Common.{◌≡◌, ℕ, ◌+◌, ◌*◌, Bool, true, false, cond, List, [], ◌∷◌, length, Option, Some, None, Result, Ok, Err, ℤ, refl, sym, ap}
use Rattle.std.proofs.Common.{subst, ◌∙◌}
use Rattle.std.specs.Prelude.{◌≢◌, ok_or}
use Rattle.std.proofs.lemmas.Bool.{eq-eqb}
use Rattle.number_text.specs.Number.{number, coordinate}
use Rattle.script_lang.specs.Reading.{box_of, corners_of, onto_values, text_of, value_of, values_of}
use Rattle.script_lang.specs.declared.faults.LineFault.{LineFault}
use Rattle.script_lang.specs.declared.faults.LineFault.TheVariants as fault
use Rattle.script_lang.proofs.Limits.{text_remembers}
use Rattle.script_lang.specs.Lines.{words_of}
use Rattle.script_lang.specs.Parts.{Takes, words_left}
use Rattle.script_lang.specs.declared.words.Words.{Words}
use Rattle.point_counts.specs.Grids.{plan_of}
use Rattle.count_queries.specs.Asks.{Ask, Grid, CountReading, Says, Fails, on_success, read_counts, read_grid, read_points, read_verb, read_words}

-- a part of a line, and a line, that has no such fault; records, so that what they speak of is found
record IsPart {X : Type 0} (part : Result X LineFault) : Type 0 where
  other : (f : LineFault) → part ≡ Err f → f ≢ fault.Memory

record IsFine (reading : CountReading) : Type 0 where
  other : (f : LineFault) → reading ≡ Fails f → f ≢ fault.Memory

there : {X : Type 0} (x : X) → IsPart (Ok x)
there x = record { other = λ f e. cc }

not_there : {X : Type 0} (f : LineFault) → f ≢ fault.Memory → IsPart {X = X} (Err f)
not_there {X} f h = record { other = λ g e. let same : f ≡ g = cc in subst (λ (x : LineFault). x ≢ fault.Memory) same h }

says : (ask : Ask) → IsFine (Says ask)
says ask = record { other = λ f e. cc }

fails : (f : LineFault) → f ≢ fault.Memory → IsFine (Fails f)
fails f h = record { other = λ g e. let same : f ≡ g = cc in subst (λ (x : LineFault). x ≢ fault.Memory) same h }

if_fine : (b : Bool) {r s : CountReading} → IsFine r → IsFine s → IsFine (cond b r s)
if_fine true held other = held
if_fine false held other = other

if_part : {X : Type 0} (b : Bool) {r s : Result X LineFault} → IsPart r → IsPart s → IsPart (cond b r s)
if_part true held other = held
if_part false held other = other

fault_of : {X : Type 0} (f : LineFault) → IsPart {X = X} (Err f) → f ≢ fault.Memory
fault_of f part = part.other f refl

given_fine : {X : Type 0} {part : Result X LineFault} {next : X → CountReading} → IsPart part → ((x : X) → IsFine (next x)) → IsFine (on_success part next)
given_fine {X} {part = Ok x} {next} p fine = fine x
given_fine {X} {part = Err f} {next} p fine = fails f (fault_of f p)

value_part : {X : Type 0} (value : List ℕ → Option X) (place : ℕ) (word : List ℕ) → IsPart (value_of value place word)
value_part value place word =
    elim (value word) as (λ v. IsPart (ok_or v (fault.Number place))) [ Some x ↦ there x | None ↦ not_there (fault.Number place) (λ e. cc) ]

onto_part : {X : Type 0} (one : Result X LineFault) (others : Result (List X) LineFault) → IsPart one → IsPart others → IsPart (onto_values one others)
onto_part (Err f) others first rest = not_there f (fault_of f first)
onto_part (Ok x) (Err f) first rest = not_there f (fault_of f rest)
onto_part (Ok x) (Ok xs) first rest = there (x ∷ xs)

values_part : (place : ℕ) (words : List (List ℕ)) → IsPart (values_of coordinate place words)
values_part place [] = there []
values_part place (w ∷ ws) =
    onto_part (value_of coordinate place w) (values_of coordinate (place + 1) ws) (value_part coordinate place w) (values_part (place + 1) ws)

corners_part : (dims : ℕ) (cs : Result (List ℤ) LineFault) → IsPart cs → IsPart (corners_of dims cs)
corners_part dims (Ok cs) part = there _
corners_part dims (Err f) part = not_there f (fault_of f part)

box_part : (dims place : ℕ) (words : List (List ℕ)) → IsPart (box_of dims place words)
unfolding box_of
box_part dims place words = if_part _ (corners_part dims _ (values_part place words)) (not_there fault.Words (λ e. cc))

wrong : IsFine (Fails fault.Words)
wrong = fails fault.Words (λ e. cc)

points_fine : (dims : ℕ) (words : List (List ℕ)) → IsFine (read_points dims words)
unfolding read_points
points_fine dims words = given_fine (box_part dims 2 words) (λ ends. says _)

grid_fine : (dims : ℕ) (words : List (List ℕ)) → IsFine (read_grid dims words)
unfolding read_grid
grid_fine dims [] = wrong
grid_fine dims (x ∷ []) = wrong
grid_fine dims (x ∷ step_x ∷ []) = wrong
grid_fine dims (x ∷ step_x ∷ y ∷ []) = wrong
grid_fine dims (x ∷ step_x ∷ y ∷ step_y ∷ ends) =
    if_fine _
    (given_fine (value_part number 2 x) (λ a. given_fine (value_part number 3 step_x) (λ b.
    given_fine (value_part number 4 y) (λ c. given_fine (value_part number 5 step_y) (λ d.
    given_fine (box_part dims 6 ends) (λ e. says _))))))
    wrong

verb_fine : (dims : Option ℕ) (verb : List ℕ) (words : List (List ℕ)) → IsFine (read_verb dims verb words)
unfolding read_verb
verb_fine None verb words = fails fault.NoIndex (λ e. cc)
verb_fine (Some dims) verb words = if_fine _ (points_fine dims words) (if_fine _ (grid_fine dims words) (fails fault.Unknown (λ e. cc)))

words_fine : (dims : Option ℕ) (words : List (List ℕ)) → IsFine (read_words dims words)
words_fine dims [] = says _
words_fine dims (verb ∷ words) = if_fine _ (says _) (verb_fine dims verb words)

text_part : (line : List ℕ) → IsPart (text_of line)
text_part line = record { other = text_remembers line }

pub no_memory : (dims : Option ℕ) (line : List ℕ) (f : LineFault) → read_counts dims line ≡ Fails f → f ≢ fault.Memory
unfolding read_counts
no_memory dims line f e = (given_fine (text_part line) (λ text. words_fine dims (words_of text))).other f e

-- ---- the words of a grid

abbrev pub grid_from : (a b c d : ℕ) → List ℤ × List ℤ → CountReading
grid_from a b c d ends = Says (Grid (plan_of ends.0 ends.1 a b c d))

given_four : (a b c d : Result ℕ LineFault) (w x y z : ℕ) (box : Result (List ℤ × List ℤ) LineFault) → Ok w ≡ a → Ok x ≡ b → Ok y ≡ c → Ok z ≡ d
    → on_success a (λ a. on_success b (λ b. on_success c (λ c. on_success d (λ d. on_success box (grid_from a b c d))))) ≡ on_success box (grid_from w x y z)
given_four a b c d w x y z box p q r s =
    sym (λ i. on_success (p i) (λ a. on_success (q i) (λ b. on_success (r i) (λ c. on_success (s i) (λ d. on_success box (grid_from a b c d))))))

-- all four numbers are read
pub grid_read : (D place : ℕ) (words : List (List ℕ)) (x step_x y step_y : List ℕ) (ends : List (List ℕ)) (a b c d : ℕ) → words ≡ x ∷ step_x ∷ y ∷ step_y ∷ ends
    → length ends ≡ 2 * D → place ≡ 6
    → Ok a ≡ value_of number 2 x → Ok b ≡ value_of number 3 step_x → Ok c ≡ value_of number 4 y → Ok d ≡ value_of number 5 step_y
    → read_grid D words ≡ on_success (box_of D place ends) (grid_from a b c d)
unfolding read_grid
grid_read D place words x step_x y step_y ends a b c d is long six p q r s =
    rw (is, six, eq-eqb (length ends) (2 * D) long)
    (given_four (value_of number 2 x) (value_of number 3 step_x) (value_of number 4 y) (value_of number 5 step_y) a b c d (box_of D 6 ends) p q r s)

-- four words are taken off
pub words_four : {a b c d : List ℕ} {v w x y z : Words} → Takes a v w → Takes b w x → Takes c x y → Takes d y z → words_left v ≡ a ∷ b ∷ c ∷ d ∷ words_left z
words_four {a} {b} {c} {d} {v} {w} {x} {y} {z} p q r s =
    p.words ∙ ap (λ ws. a ∷ ws) (q.words ∙ ap (λ ws. b ∷ ws) (r.words ∙ ap (λ ws. c ∷ ws) s.words))
