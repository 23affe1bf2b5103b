-- In how many segments a number is live.
use Rattle.std.proofs.Common.{◌≡◌, ℕ, ◌+◌, ◌≤◌, ◌<◌, Bool, true, false, ◌||◌, eqb, cond, List, [], ◌∷◌, refl, sym, ap, subst, ◌∙◌, inl, inr, arith}
use Rattle.std.specs.List.{AllPairs, Contains}
use Rattle.std.proofs.lemmas.Bool.{cases_Bool, eq-eqb, eqb-true}
use Rattle.std.proofs.lemmas.List.Elements.{All-contains, All-contains_itself, All-weaker}
use Rattle.std.proofs.lemmas.List.Kept.{AllPairs-cons}
use Rattle.std.proofs.lemmas.List.Sums.{sum_by-cons}
use Rattle.outer_io.specs.Files.{Files}
use Rattle.point_codec.specs.Points.{Item}
use Rattle.live_bits.specs.LiveSet.{LiveSet, is_live}
use Rattle.documents.specs.Documents.{Document, is_live as is_live_doc}
use Rattle.documents.specs.Entries.{has_entry}
use Rattle.documents.proofs.Lists.{cons_cases, cons_head, cons_tail, nil_none, in_filter, in_flat_map, of_map}
use Rattle.documents.proofs.Lists.{of_filter, of_flat_map, in_map, pairs_head, pairs_tail, pairs_none}
use Rattle.documents.proofs.Kept.{live as live_docs}
use Rattle.documents.proofs.Members.{doc_of}
use Rattle.commit_list.specs.Commits.{CommitData}
use Rattle.stored_index.specs.Segments.{SegmentData, AreApart, live_entries, all_live_entries, live_sets, places}
use Rattle.stored_index.specs.Stored.{HoldsFiles, HoldAll, HoldsIndex}
use Rattle.stored_index.proofs.Pairwise.{partner_of}

places-cons : (number : ℕ) (s : LiveSet) (ss : List LiveSet) → places number (s ∷ ss) ≡ cond (is_live s number) 1 0 + places number ss
places-cons number s ss = sum_by-cons (λ (t : LiveSet). cond (is_live t number) 1 0) s ss

pub live_first : (number : ℕ) (s : LiveSet) (ss : List LiveSet) → is_live s number ≡ true → places number (s ∷ ss) ≡ 1 + places number ss
live_first number s ss e = places-cons number s ss ∙ ap (λ (b : Bool). cond b 1 0 + places number ss) e

pub dead_first : (number : ℕ) (s : LiveSet) (ss : List LiveSet) → is_live s number ≡ false → places number (s ∷ ss) ≡ places number ss
dead_first number s ss e = places-cons number s ss ∙ ap (λ (b : Bool). cond b 1 0 + places number ss) e ∙ omega arith

pub rest_le : (number : ℕ) (s : LiveSet) (ss : List LiveSet) → places number ss ≤ places number (s ∷ ss)
rest_le number s ss = omega (arith, places-cons number s ss)

pub some_place : (number : ℕ) (sets : List LiveSet) (s : LiveSet) → Contains sets s → is_live s number ≡ true → 1 ≤ places number sets
some_place number [] s h e = nil_none s _ h
some_place number (x ∷ xs) s h e = elim (cons_cases x xs s h) [
  | inl here ↦ omega (arith, live_first number x xs (ap (λ (z : LiveSet). is_live z number) here ∙ e))
  | inr later ↦ omega (arith, rest_le number x xs, some_place number xs s later e)
]

pub no_place : (number : ℕ) (sets : List LiveSet) → ((s : LiveSet) → Contains sets s → is_live s number ≡ true → ⊥) → places number sets ≡ 0
no_place number [] none = refl
no_place number (x ∷ xs) none = elim (cases_Bool (is_live x number)) [
  | inl here ↦ absurd (none x (cons_head x xs) here)
  | inr dead ↦ dead_first number x xs dead ∙ no_place number xs (λ s h e. none s (cons_tail x xs s h) e)
]

pub apart_from : (sets : List LiveSet) → ((number : ℕ) → places number sets ≤ 1) → AllPairs AreApart sets
apart_from [] alone = pairs_none AreApart
apart_from (x ∷ xs) alone =
    AllPairs-cons AreApart x xs
    (All-weaker (Contains xs) (AreApart x) (λ y h number here there. omega (arith, alone number, live_first number x xs here, some_place number xs y h there))
    xs (All-contains_itself xs))
    (apart_from xs (λ number. omega (arith, alone number, rest_le number x xs)))

pub alone_from : (sets : List LiveSet) → AllPairs AreApart sets → (number : ℕ) → places number sets ≤ 1
alone_from [] apart number = omega arith
alone_from (x ∷ xs) apart number = elim (cases_Bool (is_live x number)) [
  | inl here ↦ omega (arith, live_first number x xs here, no_place number xs (λ y h there. pairs_head AreApart x xs apart y h number here there))
  | inr dead ↦ omega (arith, dead_first number x xs dead, alone_from xs (pairs_tail AreApart x xs apart) number)
]

-- ---- a live number is that of a live entry, and so that of a document

abbrev pub set_in : SegmentData → LiveSet
set_in d = d.live

pub some_entry : (number : ℕ) (xs : List Item) → has_entry number xs ≡ true → (x : Item) × Contains xs x × (x.doc ≡ number)
some_entry number [] h = cc
some_entry number (x ∷ xs) h = elim (cases_Bool (eqb x.doc number)) [
  | inl here ↦ (x, cons_head x xs, eqb-true x.doc number here)
  | inr not_here ↦
      let found = some_entry number xs (sym (ap (λ (b : Bool). b || has_entry number xs) not_here) ∙ h) in
      (found.0, cons_tail x xs found.0 found.1, found.2)
]

-- a live number's entry is a live entry
live_entry : (files : Files) (c : CommitData) (parts : List SegmentData) (held : HoldAll files c parts) (number : ℕ) (d : SegmentData) → Contains parts d
    → is_live d.live number ≡ true
    → (x : Item) × Contains (all_live_entries parts) x × (x.doc ≡ number)
live_entry files c parts held number d h live =
    let part = partner_of (HoldsFiles files c) c.listed parts held d h in
    let entry = some_entry number d.entries (part.2.found number live) in
    let is : is_live d.live entry.0.doc ≡ true = ap (is_live d.live) entry.2 ∙ live in
    (entry.0, in_flat_map live_entries parts d entry.0 h (in_filter (λ (x : Item). is_live d.live x.doc) d.entries entry.0 entry.1 is), entry.2)

live_below : (files : Files) (c : CommitData) (docs : List Document) (held : HoldsIndex files c docs) (number : ℕ) (d : SegmentData) → Contains held.parts d
    → is_live d.live number ≡ true → number < c.next
live_below files c docs held number d h live =
    let entry = live_entry files c held.parts held.segments number d h live in
    let doc = doc_of c.next (all_live_entries held.parts) docs held.are_docs entry.0 entry.1 in
    let below = All-contains (λ (e : Document). e.number < c.next) docs doc.0 held.are_docs.below doc.1 in
    omega (arith, below, doc.2, entry.2)

pub none_from_next : (files : Files) (c : CommitData) (docs : List Document) (held : HoldsIndex files c docs) (number : ℕ) → c.next ≤ number
    → places number (live_sets held.parts) ≡ 0
none_from_next files c docs held number le =
    no_place number (live_sets held.parts)
    (λ s h live.
    let part = of_map set_in held.parts s h in
    omega (arith, le, live_below files c docs held number part.0 part.1 (ap (λ (t : LiveSet). is_live t number) part.2 ∙ live)))

pub entry_there : (xs : List Item) (x : Item) → Contains xs x → has_entry x.doc xs ≡ true
entry_there [] x h = nil_none x _ h
entry_there (y ∷ ys) x h = elim (cons_cases y ys x h) [
  | inl here ↦ rw (eq-eqb y.doc x.doc (ap (λ (z : Item). z.doc) here)) refl
  | inr later ↦ rw (entry_there ys x later) (or_true (eqb y.doc x.doc))
]
  where
    or_true : (b : Bool) → (b || true) ≡ true
    or_true true = refl
    or_true false = refl

-- each live entry's number is live in a segment
pub entry_live : (parts : List SegmentData) (x : Item) → Contains (all_live_entries parts) x → 1 ≤ places x.doc (live_sets parts)
entry_live parts x h =
    let part = of_flat_map live_entries parts x h in
    let live = (of_filter (λ (y : Item). is_live part.0.live y.doc) part.0.entries x part.2).1 in
    some_place x.doc (live_sets parts) part.0.live (in_map set_in parts part.0 part.1) live

-- ---- the live numbers are those of the documents

placed : (number : ℕ) (sets : List LiveSet) → 1 ≤ places number sets → (s : LiveSet) × Contains sets s × (is_live s number ≡ true)
placed number [] some = absurd (omega (arith, some))
placed number (x ∷ xs) some = elim (cases_Bool (is_live x number)) [
  | inl here ↦ (x, cons_head x xs, here)
  | inr dead ↦
      let found = placed number xs (omega (arith, some, dead_first number x xs dead)) in
      (found.0, cons_tail x xs found.0 found.1, found.2)
]

pub doc_of_place : (files : Files) (c : CommitData) (docs : List Document) (held : HoldsIndex files c docs) (number : ℕ)
    → 1 ≤ places number (live_sets held.parts) → is_live_doc number docs ≡ true
doc_of_place files c docs held number some =
    let set = placed number (live_sets held.parts) some in
    let part = of_map set_in held.parts set.0 set.1 in
    let entry = live_entry files c held.parts held.segments number part.0 part.1 (ap (λ (t : LiveSet). is_live t number) part.2 ∙ set.2) in
    live_docs c.next (all_live_entries held.parts) docs number held.are_docs
    ∙ subst (λ (n : ℕ). has_entry n (all_live_entries held.parts) ≡ true) entry.2 (entry_there (all_live_entries held.parts) entry.0 entry.1)

pub place_of_doc : (files : Files) (c : CommitData) (docs : List Document) (held : HoldsIndex files c docs) (number : ℕ) → is_live_doc number docs ≡ true
    → 1 ≤ places number (live_sets held.parts)
place_of_doc files c docs held number live =
    let entry = some_entry number (all_live_entries held.parts) (sym (live_docs c.next (all_live_entries held.parts) docs number held.are_docs) ∙ live) in
    subst (λ (n : ℕ). 1 ≤ places n (live_sets held.parts)) entry.2 (entry_live held.parts entry.0 entry.1)
