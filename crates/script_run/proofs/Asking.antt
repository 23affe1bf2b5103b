-- What lines ask for, and what becomes of the index.
use Rattle.std.proofs.Common.{◌≡◌, ◌≤◌, ◌+◌, ◌^◌, ◌<◌, ℕ, Bool, true, false, not, if◌then◌else◌, nat_lt, nat_le, List, [], ◌∷◌}
use Rattle.std.proofs.Common.{◌++◌, length, filter, Option, None, Some, Ok, Err, refl, sym, ap, subst, ◌∙◌, ◌⊎◌, inl, inr, arith, ℤ}
use Rattle.std.specs.Prelude.{is_some}
use Rattle.std.specs.Option.{option_map}
use Rattle.std.specs.Str.{bytes_eq}
use Rattle.std.proofs.lemmas.Bool.Decides.{nat_tests}
use Rattle.documents.specs.Documents.{Document}
use Rattle.script_lang.specs.Requests.{Request}
use Rattle.script_lang.specs.Requests as asks
use Rattle.script_lang.specs.Replies.{doc_text}
use Rattle.script_lang.specs.declared.faults.Refusal.TheVariants as why
use Rattle.index_model.specs.State.{Index, State, snapshot_of, viewed_docs, given_of}
use Rattle.index_model.specs.Step.{Outcome, Done, Refused, query_outcome, done_ok, step, step_on}
use Rattle.index_model.specs.Script.{Answer, answer_to}
use Rattle.index_core.specs.Light.{is_light, points_in}
use Rattle.script_run.specs.Costs.{AsksOnly, begins_no_merge, is_query}
use Rattle.script_run.specs.Languages.{LineRequest, answer, answer_of, line_request, meaning}
use Rattle.script_run.specs.Script.{state_after}
use Rattle.script_run.specs.declared.language.Language.{Language}
use Rattle.range_docs.specs.declared.faults.RangeFault.{RangeFault}

-- ---- an outcome

abbrev pub IsRefusal : Outcome → Type 0
IsRefusal (Done state text) = ⊥
IsRefusal (Refused cause) = Unit {0}

refusal_of : (line : ℕ) (state : State) (o : Outcome) → (answer_to line state o).refused ≡ 1 → IsRefusal o
refusal_of line state (Done after text) e = absurd (omega (arith, e))
refusal_of line state (Refused cause) e = tt

pub refusal_state : (line : ℕ) (state : State) (o : Outcome) → IsRefusal o → (answer_to line state o).state ≡ state
refusal_state line state (Done after text) h = absurd h
refusal_state line state (Refused cause) h = refl

no : {P : Type 0} → false ≡ true → P
no e = cc

-- what holds of the state after each of two outcomes, or of a query that is answered, holds after it
module _ (P : State → Type 0) (line : ℕ) (i : Index) where
  pub either : (b : Bool) (o p : Outcome) → P (answer_to line (Some i) o).state → P (answer_to line (Some i) p).state
      → P (answer_to line (Some i) (if b then o else p)).state
  either true o p x y = x
  either false o p x y = y

  pub queried : (docs : Option (List Document)) (text : List Document → List ℕ) → P (Some i) → P (answer_to line (Some i) (query_outcome i docs text)).state
  queried None text h = h
  queried (Some docs) text h = h

-- the request asks so of the index, or is refused
abbrev pub Asks : (Request → Bool) → Index → Request → Type 0
Asks test i r = IsRefusal (step_on i r) ⊎ (test r ≡ true)

-- what requests that may be refused leave, where they aren't
abbrev pub more : List (List ℤ) → Index → Outcome
more points i =
    Done (Some
    (record i { next = i.next + 1; points_given = i.points_given + length points; docs = i.docs ++ record { number = i.next; points = points } ∷ [] }))
    (doc_text i.next)

abbrev pub taken : List ℕ → Index → Outcome
taken name i = done_ok (record i { snapshots = i.snapshots ++ record { name = name; docs = i.docs } ∷ [] })

abbrev pub let_go : List ℕ → Index → Outcome
let_go name i = done_ok (record i { snapshots = filter (λ s. not (bytes_eq s.name name)) i.snapshots })

abbrev pub is_full : List (List ℤ) → Index → Bool
is_full points i = nat_lt (2 ^ 24) (i.points_given + length points)

abbrev pub is_taken : List ℕ → Index → Bool
is_taken name i = is_some (snapshot_of name i.snapshots)

abbrev pub are_many : Index → Bool
are_many i = nat_le 16 (length i.snapshots)

abbrev pub taken_if : List ℕ → Index → Outcome
taken_if name i = if are_many i then Refused why.TooManySnapshots else taken name i

-- ---- a begun merge

-- no merge is begun in the index, if there is one
abbrev pub Rested : State → Type 0
Rested None = Unit {0}
Rested (Some i) = i.begun ≡ false

pub begin_refused : (b : Bool) (j : Outcome) → b ≡ false → IsRefusal (if b then Refused why.Begun else j) → IsRefusal j
begin_refused true j e h = absurd cc
begin_refused false j e h = h

begun_rests : (line : ℕ) (i : Index) (b : Bool) (j : Outcome) → b ≡ false → (IsRefusal j → ⊥) → IsRefusal (if b then Refused why.Begun else j)
    → Rested (answer_to line (Some i) (if b then Refused why.Begun else j)).state
begun_rests line i b j e none h = absurd (none (begin_refused b j e h))

-- only `merge begin` begins one
request_rests : (line : ℕ) (i : Index) (r : Request) → Asks begins_no_merge i r → i.begun ≡ false → Rested (answer_to line (Some i) (step_on i r)).state
unfolding step_on
request_rests line i (asks.Add points) ask e = either Rested line i (is_full points i) (Refused why.Full) (more points i) e e
request_rests line i (asks.InBox view lo hi) ask e = queried Rested line i (viewed_docs view i) _ e
request_rests line i (asks.InPolygon view rings) ask e = queried Rested line i (viewed_docs view i) _ e
request_rests line i (asks.Nearest view k at) ask e = queried Rested line i (viewed_docs view i) _ e
request_rests line i (asks.MergeBegin positions) (inl h) e = begun_rests line i i.begun (done_ok (record i { begun = true })) e (λ f. f) h
request_rests line i (asks.MergeBegin positions) (inr t) e = no t
request_rests line i asks.MergeEnd ask e = either Rested line i i.begun (done_ok (record i { begun = false })) (Refused why.NotBegun) refl e
request_rests line i (asks.Snapshot name) ask e =
    either Rested line i (is_taken name i) (Refused why.NameTaken) (taken_if name i) e
    (either Rested line i (are_many i) (Refused why.TooManySnapshots) (taken name i) e e)
request_rests line i (asks.Release name) ask e = either Rested line i (is_taken name i) (let_go name i) (Refused why.UnknownSnapshot) e e
request_rests line i asks.Reopen ask e = refl
request_rests line i r ask e = e

-- ---- the points given

abbrev Grows : ℕ → State → Type 0
Grows n state = n ≤ given_of state

request_gives : (line : ℕ) (i : Index) (r : Request) → i.points_given ≤ given_of (answer_to line (Some i) (step_on i r)).state
unfolding step_on
request_gives line i (asks.Add points) = either (Grows i.points_given) line i (is_full points i) (Refused why.Full) (more points i) (omega arith) (omega arith)
request_gives line i (asks.InBox view lo hi) = queried (Grows i.points_given) line i (viewed_docs view i) _ (omega arith)
request_gives line i (asks.InPolygon view rings) = queried (Grows i.points_given) line i (viewed_docs view i) _ (omega arith)
request_gives line i (asks.Nearest view k at) = queried (Grows i.points_given) line i (viewed_docs view i) _ (omega arith)
request_gives line i (asks.MergeBegin positions) =
    either (Grows i.points_given) line i i.begun (Refused why.Begun) (done_ok (record i { begun = true })) (omega arith) (omega arith)
request_gives line i asks.MergeEnd =
    either (Grows i.points_given) line i i.begun (done_ok (record i { begun = false })) (Refused why.NotBegun) (omega arith) (omega arith)
request_gives line i (asks.Snapshot name) =
    either (Grows i.points_given) line i (is_taken name i) (Refused why.NameTaken) (taken_if name i) (omega arith)
    (either (Grows i.points_given) line i (are_many i) (Refused why.TooManySnapshots) (taken name i) (omega arith) (omega arith))
request_gives line i (asks.Release name) =
    either (Grows i.points_given) line i (is_taken name i) (let_go name i) (Refused why.UnknownSnapshot) (omega arith) (omega arith)
request_gives line i r = omega arith

-- where it is done, as many more as the request adds
module _ (line : ℕ) (i : Index) where
  abbrev Gives : ℕ → Outcome → Type 0
  Gives n o = (IsRefusal o → ⊥) → given_of (answer_to line (Some i) o).state ≡ i.points_given + n

  both : (n : ℕ) (b : Bool) (o p : Outcome) → Gives n o → Gives n p → Gives n (if b then o else p)
  both n true o p x y = x
  both n false o p x y = y

  answers : (docs : Option (List Document)) (text : List Document → List ℕ) → Gives 0 (query_outcome i docs text)
  answers None text done = absurd (done tt)
  answers (Some docs) text done = omega arith

  pub light_gives : (r : Request) → is_light r ≡ true → Gives (points_in r) (step_on i r)
  unfolding step_on
  light_gives (asks.Create dims leaf_size) light done = absurd (done tt)
  light_gives (asks.Add points) light done = both (length points) (is_full points i) (Refused why.Full) (more points i) (λ d. absurd (d tt)) (λ d. refl) done
  light_gives (asks.InBox view lo hi) light done = answers (viewed_docs view i) _ done
  light_gives (asks.InPolygon view rings) light done = answers (viewed_docs view i) _ done
  light_gives (asks.Nearest view k at) light done = answers (viewed_docs view i) _ done
  light_gives (asks.Snapshot name) light done =
      both 0 (is_taken name i) (Refused why.NameTaken) (taken_if name i) (λ d. absurd (d tt))
      (both 0 (are_many i) (Refused why.TooManySnapshots) (taken name i) (λ d. absurd (d tt)) (λ d. omega arith)) done
  light_gives (asks.Release name) light done =
      both 0 (is_taken name i) (let_go name i) (Refused why.UnknownSnapshot) (λ d. omega arith) (λ d. absurd (d tt)) done
  light_gives asks.Blank light done = omega arith
  light_gives (asks.Delete doc) light done = omega arith
  light_gives (asks.DeleteBox lo hi) light done = no light
  light_gives asks.Flush light done = no light
  light_gives asks.Merge light done = no light
  light_gives (asks.MergeBegin positions) light done = no light
  light_gives asks.MergeEnd light done = no light
  light_gives asks.Commit light done = no light
  light_gives asks.Reopen light done = no light

full_by : (n : ℕ) (b : Bool) (o : Outcome) → nat_lt (2 ^ 24) n ≡ b → (IsRefusal o → ⊥) → IsRefusal (if b then Refused why.Full else o) → 2 ^ 24 < n
full_by n true o e none h = grind (arith, nat_tests)
full_by n false o e none h = absurd (none h)

-- an addition is refused where more points would be given than may be
pub full_of : (i : Index) (points : List (List ℤ)) → IsRefusal (step_on i (asks.Add points)) → 2 ^ 24 < i.points_given + length points
unfolding step_on
full_of i points h = full_by (i.points_given + length points) (is_full points i) (more points i) refl (λ f. f) h

added_by : (line : ℕ) (i : Index) (n : ℕ) (b : Bool) (o : Outcome) → given_of (answer_to line (Some i) o).state ≡ n
    → IsRefusal (if b then Refused why.Full else o) ⊎ (given_of (answer_to line (Some i) (if b then Refused why.Full else o)).state ≡ n)
added_by line i n true o e = inl tt
added_by line i n false o e = inr e

-- and else they are given
pub full_or_given : (line : ℕ) (i : Index) (points : List (List ℤ))
    → IsRefusal (step_on i (asks.Add points)) ⊎ (given_of (answer_to line (Some i) (step_on i (asks.Add points))).state ≡ i.points_given + length points)
unfolding step_on
full_or_given line i points = added_by line i (i.points_given + length points) (is_full points i) (more points i) refl

-- ---- the same state

query_request : (line : ℕ) (i : Index) (r : Request) → is_query r ≡ true → (answer_to line (Some i) (step_on i r)).state ≡ Some i
unfolding step_on
query_request line i asks.Blank q = refl
query_request line i (asks.InBox view lo hi) q = queried (λ (s : State). s ≡ Some i) line i (viewed_docs view i) _ refl
query_request line i (asks.InPolygon view rings) q = queried (λ (s : State). s ≡ Some i) line i (viewed_docs view i) _ refl
query_request line i (asks.Nearest view k at) q = queried (λ (s : State). s ≡ Some i) line i (viewed_docs view i) _ refl
query_request line i r q = no q

-- a query leaves the state
request_stays : (line : ℕ) (i : Index) (r : Request) → Asks is_query i r → (answer_to line (Some i) (step_on i r)).state ≡ Some i
request_stays line i r (inl h) = refusal_state line (Some i) (step_on i r) h
request_stays line i r (inr q) = query_request line i r q

-- without an index none makes one
first_stays : (line : ℕ) (r : Request) → ((answer_to line None (step None r)).refused ≡ 1) ⊎ (is_query r ≡ true)
    → (answer_to line None (step None r)).state ≡ None
first_stays line (asks.Create dims leaf_size) (inl e) = absurd (omega (arith, e))
first_stays line (asks.Create dims leaf_size) (inr q) = no q
first_stays line r ask = refl

-- ---- which requests are which

pub light_begins : (r : Request) → is_light r ≡ true → begins_no_merge r ≡ true
light_begins (asks.MergeBegin positions) e = no e
light_begins r e = refl

pub query_light : (r : Request) → is_query r ≡ true → is_light r ≡ true
query_light asks.Blank e = refl
query_light (asks.InBox view lo hi) e = refl
query_light (asks.InPolygon view rings) e = refl
query_light (asks.Nearest view k at) e = refl
query_light r e = no e

-- ---- a line

answer_is : (lang : Language) → (line : ℕ) (state : State) (bytes : List ℕ) (reading : LineRequest)
    → line_request lang (option_map (λ (i : Index). i.dims) state) bytes ≡ reading → answer lang line state bytes ≡ answer_of line state reading
unfolding answer
answer_is lang line state bytes reading is = ap (answer_of line state) is

says_inj : (q r : Request) → ◌≡◌ {A = LineRequest} (Ok q) (Ok r) → q ≡ r
says_inj q r e = cc

-- what it asks, by what was read of it
pub asked : (lang : Language) → (test : Request → Bool) (line : ℕ) (i : Index) (bytes : List ℕ) (r : Request) → line_request lang (Some i.dims) bytes ≡ Ok r
    → AsksOnly lang test line (Some i) bytes → Asks test i r
asked lang test line i bytes r is (inl refused) =
    inl (refusal_of line (Some i) (step_on i r) (sym (ap (λ (a : Answer). a.refused) (answer_is lang line (Some i) bytes (Ok r) is)) ∙ refused))
asked lang test line i bytes r is (inr (q, says, t)) = inr (subst (λ (x : Request). test x ≡ true) (says_inj q r (sym says ∙ is)) t)

-- what holds of the state after each request that asks so, and of the state before, holds after the line
module _ (lang : Language) (P : State → Type 0) (test : Request → Bool) (line : ℕ) (i : Index) (bytes : List ℕ) (here : P (Some i))
    (there : (r : Request) → Asks test i r → P (answer_to line (Some i) (step_on i r)).state)
    (ask : AsksOnly lang test line (Some i) bytes) where
  by_reading : (reading : LineRequest) → line_request lang (Some i.dims) bytes ≡ reading → P (answer lang line (Some i) bytes).state
  by_reading (Ok r) is =
      subst (λ (a : Answer). P a.state) (sym (answer_is lang line (Some i) bytes (Ok r) is)) (there r (asked lang test line i bytes r is ask))
  by_reading (Err f) is = subst (λ (a : Answer). P a.state) (sym (answer_is lang line (Some i) bytes (Err f) is)) here

  by_line : P (answer lang line (Some i) bytes).state
  by_line = by_reading (line_request lang (Some i.dims) bytes) refl

pub line_rests : (lang : Language) → (line : ℕ) (i : Index) (bytes : List ℕ) → AsksOnly lang begins_no_merge line (Some i) bytes → i.begun ≡ false
    → Rested (answer lang line (Some i) bytes).state
line_rests lang line i bytes ask e = by_line lang Rested begins_no_merge line i bytes e (λ r a. request_rests line i r a e) ask

line_gives : (lang : Language) → (line : ℕ) (state : State) (bytes : List ℕ) → given_of state ≤ given_of (answer lang line state bytes).state
line_gives lang line None bytes = omega arith
line_gives lang line (Some i) bytes = by (line_request lang (Some i.dims) bytes) refl
  where
    by : (reading : LineRequest) → line_request lang (Some i.dims) bytes ≡ reading → i.points_given ≤ given_of (answer lang line (Some i) bytes).state
    by (Ok r) is = subst (λ (a : Answer). i.points_given ≤ given_of a.state) (sym (answer_is lang line (Some i) bytes (Ok r) is)) (request_gives line i r)
    by (Err f) is = subst (λ (a : Answer). i.points_given ≤ given_of a.state) (sym (answer_is lang line (Some i) bytes (Err f) is)) (omega arith)

pub lines_give : (lang : Language) → (line : ℕ) (state : State) (lines : List (List ℕ))
    → given_of state ≤ given_of (state_after (meaning lang) line state lines)
lines_give lang line state [] = omega arith
lines_give lang line state (l ∷ ls) = omega (arith, line_gives lang line state l, lines_give lang (line + 1) (answer lang line state l).state ls)

pub query_stays : (lang : Language) → (line : ℕ) (state : State) (bytes : List ℕ) → AsksOnly lang is_query line state bytes
    → (answer lang line state bytes).state ≡ state
query_stays lang line (Some i) bytes ask = by_line lang (λ (s : State). s ≡ Some i) is_query line i bytes refl (λ r a. request_stays line i r a) ask
query_stays lang line None bytes ask = by (line_request lang None bytes) refl
  where
    asks_so : (r : Request) → line_request lang None bytes ≡ Ok r → AsksOnly lang is_query line None bytes
        → ((answer_to line None (step None r)).refused ≡ 1) ⊎ (is_query r ≡ true)
    asks_so r is (inl refused) = inl (sym (ap (λ (a : Answer). a.refused) (answer_is lang line None bytes (Ok r) is)) ∙ refused)
    asks_so r is (inr (q, says, t)) = inr (subst (λ (x : Request). is_query x ≡ true) (says_inj q r (sym says ∙ is)) t)

    by : (reading : LineRequest) → line_request lang None bytes ≡ reading → (answer lang line None bytes).state ≡ None
    by (Ok r) is = ap (λ (a : Answer). a.state) (answer_is lang line None bytes (Ok r) is) ∙ first_stays line r (asks_so r is ask)
    by (Err f) is = ap (λ (a : Answer). a.state) (answer_is lang line None bytes (Err f) is)

pub unread_state : (lang : Language) → (line : ℕ) (i : Index) (bytes : List ℕ) (f : RangeFault) → line_request lang (Some i.dims) bytes ≡ Err f
    → (answer lang line (Some i) bytes).state ≡ Some i
unread_state lang line i bytes f fails = ap (λ (a : Answer). a.state) (answer_is lang line (Some i) bytes (Err f) fails)

pub read_state : (lang : Language) → (line : ℕ) (i : Index) (bytes : List ℕ) (r : Request) → line_request lang (Some i.dims) bytes ≡ Ok r
    → answer lang line (Some i) bytes ≡ answer_to line (Some i) (step_on i r)
read_state lang line i bytes r is = answer_is lang line (Some i) bytes (Ok r) is
