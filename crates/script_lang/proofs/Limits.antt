-- What a line asks is within the limits, and no line fails for want of memory.
use Rattle.std.proofs.Common.{◌≡◌, ℕ, ◌+◌, Bool, true, false, cond, List, [], ◌∷◌, Option, Some, None, Result, Ok, Err, arith, refl, sym, subst, ℤ}
use Rattle.std.specs.Prelude.{◌≢◌, not, ok_or, IfOk}
use Rattle.std.proofs.lemmas.Bool.Decides.{nat_tests}
use Rattle.number_text.specs.Number.{number, coordinate}
use Rattle.polygon_query.specs.GeoJson.{polygon_of}
use Rattle.polygon_query.specs.declared.geo_json.GeoFault.{GeoFault}
use Rattle.script_lang.specs.Requests.{Request}
use Rattle.script_lang.specs.Requests as asks
use Rattle.script_lang.specs.Reading.{Reading, Says, Fails, greatest_leaf, is_from_to, on_success, value_of, values_of, onto_values, points_of}
use Rattle.script_lang.specs.Reading.{corners_of, box_of, query_of, name_of, word_alone, create_reading, read_create, read_add, read_delete, read_box}
use Rattle.script_lang.specs.Reading.{document_of, with_values, sought_of, read_nearest, behind_view, polygon_fault, rings_of, read_polygon}
use Rattle.script_lang.specs.Reading.{read_merge, read_command, text_of}
use Rattle.script_lang.specs.Seen.{IsWithinLimits, IsReadAs, request_of, first_request_of}
use Rattle.script_lang.specs.Parts.{first_reading_of}
use Rattle.script_lang.specs.declared.commands.Command.{Command}
use Rattle.script_lang.specs.declared.commands.First.{First}
use Rattle.script_lang.specs.declared.faults.LineFault.{LineFault}
use Rattle.script_lang.specs.declared.faults.LineFault.TheVariants as fault

abbrev Within : Reading → Type 0
Within (Says request) = IsWithinLimits request
Within (Fails f) = f ≢ fault.Memory

-- what every line reads as: a request within the limits, or a fault other than want of memory
record IsFine (reading : Reading) : Type 0 where
  within : Within reading

-- it fails, if at all, for another reason than want of memory
abbrev pub Remembers : {X : Type 0} → Result X LineFault → Type 0
Remembers (Ok x) = Unit {0}
Remembers (Err f) = f ≢ fault.Memory

-- what every part of a line reads as
pub record IsPart {X : Type 0} (part : Result X LineFault) : Type 0 where
  pub remembers : Remembers part

says : (request : Request) → IsWithinLimits request → IsFine (Says request)
says request h = record { within = h }

fails : (f : LineFault) → f ≢ fault.Memory → IsFine (Fails f)
fails f h = record { within = h }

pub there : {X : Type 0} (x : X) → IsPart (Ok x)
there x = record { remembers = tt }

pub not_there : {X : Type 0} (f : LineFault) → f ≢ fault.Memory → IsPart {X = X} (Err f)
not_there f h = record { remembers = h }

if_fine : (b : Bool) {r s : Reading} → IsFine r → IsFine s → IsFine (cond b r s)
if_fine true held other = held
if_fine false held other = other

pub if_part : {X : Type 0} (b : Bool) {r s : Result X LineFault} → IsPart r → IsPart s → IsPart (cond b r s)
if_part true held other = held
if_part false held other = other

given_fine : {X : Type 0} {part : Result X LineFault} {next : X → Reading} → IsPart part → ((x : X) → IsFine (next x)) → IsFine (on_success part next)
given_fine {X} {part = Ok x} {next} p fine = fine x
given_fine {X} {part = Err f} {next} p fine = fails f p.remembers

pub value_part : {X : Type 0} (value : List ℕ → Option X) (place : ℕ) (word : List ℕ) → IsPart (value_of value place word)
value_part value place word =
    elim (value word) as (λ v. IsPart (ok_or v (fault.Number place))) [ Some x ↦ there x | None ↦ not_there (fault.Number place) (λ e. cc) ]

pub onto_part : {X : Type 0} (one : Result X LineFault) (others : Result (List X) LineFault) → IsPart one → IsPart others → IsPart (onto_values one others)
onto_part (Err f) others first rest = not_there f first.remembers
onto_part (Ok x) (Err f) first rest = not_there f rest.remembers
onto_part (Ok x) (Ok xs) first rest = there (x ∷ xs)

pub values_part : {X : Type 0} (value : List ℕ → Option X) (place : ℕ) (words : List (List ℕ)) → IsPart (values_of value place words)
values_part value place [] = there []
values_part value place (w ∷ ws) =
    onto_part (value_of value place w) (values_of value (place + 1) ws) (value_part value place w) (values_part value (place + 1) ws)

corners_part : (dims : ℕ) (cs : Result (List ℤ) LineFault) → IsPart cs → IsPart (corners_of dims cs)
corners_part dims (Ok cs) part = there _
corners_part dims (Err f) part = not_there f part.remembers

points_part : (count dims : ℕ) (cs : Result (List ℤ) LineFault) → IsPart cs → IsPart (points_of count dims cs)
points_part count dims (Ok cs) part = there _
points_part count dims (Err f) part = not_there f part.remembers

wrong : IsFine (Fails fault.Words)
wrong = fails fault.Words (λ e. cc)

box_part : (dims place : ℕ) (words : List (List ℕ)) → IsPart (box_of dims place words)
unfolding box_of
box_part dims place words = if_part _ (corners_part dims _ (values_part coordinate place words)) (not_there fault.Words (λ e. cc))

query_part : (words : List (List ℕ)) → IsPart (query_of words)
unfolding query_of
query_part [] = there _
query_part (w ∷ ws) = if_part _ (if_part _ (there _) (not_there fault.BadName (λ e. cc))) (there _)

pub name_part : (words : List (List ℕ)) → IsPart (name_of words)
unfolding name_of
name_part [] = not_there fault.Words (λ e. cc)
name_part (w ∷ ws) = if_part _ (if_part _ (there _) (not_there fault.Words (λ e. cc))) (not_there fault.BadName (λ e. cc))

text_part : (line : List ℕ) → IsPart (text_of line)
unfolding text_of
text_part line = if_part _ (not_there fault.TooLong (λ e. cc)) (if_part _ (not_there fault.NotUtf8 (λ e. cc)) (there _))

alone_fine : (words : List (List ℕ)) (request : Request) → IsWithinLimits request → IsFine (word_alone words request)
alone_fine [] request fine = says request fine
alone_fine (w ∷ ws) request fine = wrong

abbrev created_if : Bool → Bool → ℕ → ℕ → Reading
created_if d l dims leaf_size = cond (not d) (Fails fault.Dims) (cond (not l) (Fails fault.LeafSize) (Says (asks.Create dims leaf_size)))

created_fine : (dims leaf_size : ℕ) → IsFine (create_reading dims leaf_size)
created_fine dims leaf_size =
    elim (is_from_to 1 8 dims) as (λ t. is_from_to 1 8 dims ≡ t → IsFine (created_if t (is_from_to 2 (greatest_leaf dims) leaf_size) dims leaf_size)) [
      | true ↦ λ d. elim (is_from_to 2 (greatest_leaf dims) leaf_size) as (λ t.
          is_from_to 2 (greatest_leaf dims) leaf_size ≡ t → IsFine (created_if true t dims leaf_size)) [
            | true ↦ λ l. says (asks.Create dims leaf_size) (
              grind (arith, nat_tests),
              grind (arith, nat_tests),
              grind (arith, nat_tests),
              grind (arith, nat_tests),
            )
            | false ↦ λ l. fails fault.LeafSize (λ e. cc)
          ] refl
      | false ↦ λ d. fails fault.Dims (λ e. cc)
    ] refl

create_fine : (words : List (List ℕ)) → IsFine (read_create words)
unfolding read_create
create_fine [] = wrong
create_fine (d ∷ []) = given_fine (value_part number 2 d) (λ dims. created_fine dims (greatest_leaf dims))
create_fine (d ∷ word ∷ []) = wrong
create_fine (d ∷ word ∷ s ∷ []) =
    if_fine _ (given_fine (value_part number 2 d) (λ dims. given_fine (value_part number 4 s) (λ leaf_size. created_fine dims leaf_size))) wrong
create_fine (d ∷ word ∷ s ∷ w ∷ ws) = wrong

document_part : (dims place : ℕ) (words : List (List ℕ)) → IsPart (document_of dims place words)
unfolding document_of
document_part dims place words = if_part _ (points_part _ dims _ (values_part coordinate place words)) (not_there fault.Words (λ e. cc))

add_fine : (dims : ℕ) (words : List (List ℕ)) → IsFine (read_add dims words)
unfolding read_add
add_fine dims words = given_fine (document_part dims 2 words) (λ ps. says _ tt)

delete_fine : (dims : ℕ) (words : List (List ℕ)) → IsFine (read_delete dims words)
unfolding read_delete
delete_fine dims [] = wrong
delete_fine dims (w ∷ ws) =
    if_fine _ (given_fine (box_part dims 3 ws) (λ b. says _ tt)) (if_fine _ (given_fine (value_part number 2 w) (λ n. says _ tt)) wrong)

box_fine : (dims : ℕ) (words : List (List ℕ)) → IsFine (read_box dims words)
unfolding read_box
box_fine dims words = given_fine (query_part words) (λ q. given_fine (box_part dims q.place q.words) (λ b. says _ tt))

k_fine : (view : asks.Viewed) (k : ℕ) (cs : List ℤ) → IsFine (cond (is_from_to 1 10000 k) (Says (asks.Nearest view k cs)) (Fails fault.BadK))
k_fine view k cs =
    elim (is_from_to 1 10000 k) as (λ t. is_from_to 1 10000 k ≡ t → IsFine (cond t (Says (asks.Nearest view k cs)) (Fails fault.BadK))) [
      | true ↦ λ t. says (asks.Nearest view k cs) (grind (arith, nat_tests), grind (arith, nat_tests))
      | false ↦ λ t. fails fault.BadK (λ e. cc)
    ] refl

with_part : (one : Result ℕ LineFault) (others : Result (List ℤ) LineFault) → IsPart one → IsPart others → IsPart (with_values one others)
with_part (Err f) others first rest = not_there f first.remembers
with_part (Ok x) (Err f) first rest = not_there f rest.remembers
with_part (Ok x) (Ok xs) first rest = there (x, xs)

sought_part : (dims place : ℕ) (words : List (List ℕ)) → IsPart (sought_of dims place words)
unfolding sought_of
sought_part dims place [] = not_there fault.Words (λ e. cc)
sought_part dims place (w ∷ ws) =
    if_part _
    (with_part (value_of number place w) (values_of coordinate (place + 1) ws) (value_part number place w) (values_part coordinate (place + 1) ws))
    (not_there fault.Words (λ e. cc))

nearest_fine : (dims : ℕ) (words : List (List ℕ)) → IsFine (read_nearest dims words)
unfolding read_nearest
nearest_fine dims words = given_fine (query_part words) (λ q. given_fine (sought_part dims q.place q.words) (λ s. k_fine q.view s.0 s.1))

fault_part : {X : Type 0} (read : Result X GeoFault) → IsPart (polygon_fault read)
fault_part (Ok x) = there x
fault_part (Err f) = not_there (fault.Geo f) (λ e. cc)

rings_part : (words : List (List ℕ)) (text : List ℕ) → IsPart (rings_of words text)
rings_part [] text = not_there fault.Words (λ e. cc)
rings_part (w ∷ ws) text = fault_part (polygon_of text)

polygon_fine : (dims : ℕ) (words : List (List ℕ)) (text : List ℕ) → IsFine (read_polygon dims words text)
unfolding read_polygon
polygon_fine dims words text =
    given_fine (query_part words) (λ q.
    if_fine _ (given_fine (rings_part q.words (behind_view q.view text)) (λ rings. says (asks.InPolygon q.view rings) tt)) (fails fault.NotTwo (λ e. cc)))

merge_fine : (words : List (List ℕ)) → IsFine (read_merge words)
unfolding read_merge
merge_fine [] = says _ tt
merge_fine (w ∷ ws) = if_fine _ (given_fine (values_part number 3 ws) (λ ps. says _ tt)) (if_fine _ (alone_fine ws asks.MergeEnd tt) wrong)

command_fine : (dims : ℕ) (verb : List ℕ) (words : List (List ℕ)) (rest : List ℕ) → IsFine (read_command dims verb words rest)
unfolding read_command
command_fine dims verb words rest =
    if_fine _ (create_fine words) (if_fine _ (add_fine dims words) (if_fine _ (delete_fine dims words) (if_fine _ (box_fine dims words)
    (if_fine _ (polygon_fine dims words rest) (if_fine _ (nearest_fine dims words) (if_fine _ (alone_fine words asks.Flush tt) (if_fine _ (merge_fine words)
    (if_fine _ (given_fine (name_part words) (λ n. says (asks.Snapshot n) tt)) (if_fine _ (given_fine (name_part words) (λ n. says (asks.Release n) tt))
    (if_fine _ (alone_fine words asks.Commit tt) (if_fine _ (alone_fine words asks.Reopen tt) (fails fault.Unknown (λ e. cc)))))))))))))

-- what a command that was read asks is within the limits
pub command_within : {D : ℕ} (result : Result (Command D) LineFault) (dims : ℕ) (verb : List ℕ) (words : List (List ℕ)) (rest : List ℕ)
    → IsReadAs request_of result (read_command dims verb words rest) → IfOk result (λ command. IsWithinLimits (request_of command))
command_within (Ok command) dims verb words rest e = (subst IsFine e (command_fine dims verb words rest)).within
command_within (Err f) dims verb words rest e = tt

pub create_within : (result : Result First LineFault) (words : List (List ℕ)) → first_reading_of result ≡ read_create words
    → IfOk result (λ first. IsWithinLimits (first_request_of first))
create_within (Ok first) words e = (subst IsFine (sym e) (create_fine words)).within
create_within (Err f) words e = tt

pub create_remembers : (result : Result First LineFault) (words : List (List ℕ)) → first_reading_of result ≡ read_create words
    → result ≢ Err fault.Memory
create_remembers (Ok first) words e m = cc
create_remembers (Err f) words e m = (subst IsFine (sym e) (create_fine words)).within cc

pub text_remembers : (line : List ℕ) (f : LineFault) → text_of line ≡ Err f → f ≢ fault.Memory
text_remembers line f e = (subst IsPart e (text_part line)).remembers
