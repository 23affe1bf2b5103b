-- A merge of all segments.
use Rattle.std.proofs.Common.{◌≡◌, ℕ, ◌+◌, ◌≤◌, Bool, true, false, cond, not, ◌&&◌, List, [], ◌∷◌}
use Rattle.std.proofs.Common.{length, take, Option, None, Some, refl, sym, ap, subst, ◌∙◌, arith}
use Rattle.std.proofs.Math.Logic.{∥∥₁_elim}
use Rattle.std.proofs.Props.{props}
use Rattle.std.specs.List.{All, Contains, filter, slice_get}
use Rattle.std.proofs.lemmas.Bool.{both_ways, false_from_ne_true, not-true}
use Rattle.std.proofs.lemmas.List.{length-map}
use Rattle.std.proofs.lemmas.List.Elements.{All-append, All-cons, All-contains, All-nil, All-weaker, filter-append}
use Rattle.outer_io.specs.declared.file_name.FileName.TheVariants.{Segment}
use Rattle.outer_io.specs.Files.{Files}
use Rattle.documents.specs.Entries.{is_among}
use Rattle.documents.proofs.Kept.{among_from, among_to}
use Rattle.documents.proofs.Lists.{cons_head, cons_tail, filter_alike, in_filter, of_filter}
use Rattle.segment_view.specs.LiveSegments.{LiveSegment, ids_of, parts_among, parts_but}
use Rattle.segment_view.proofs.Living.{parts_more}
use Rattle.segment_build.specs.NewSegments.{NewSegmentData}
use Rattle.file_names.specs.Names.{NameList, is_named}
use Rattle.segment_set.specs.Merged.{IsWhole}
use Rattle.segment_set.specs.Sets.{HasUncrowded}
use Rattle.segment_set.specs.Merges.{IsMerged, Replaces, part_at}
use Rattle.segment_set.proofs.Replaced.{all_placed, but_placed, id_of_part, length_placed}
use Rattle.segment_set.proofs.Weller.{free_id}

keeps_none : (keep : LiveSegment → Bool) (ps : List LiveSegment) → ((p : LiveSegment) → Contains ps p → keep p ≡ false) → filter keep ps ≡ []
keeps_none keep [] none = refl
keeps_none keep (p ∷ ps) none = rw (none p (cons_head p ps)) (keeps_none keep ps (λ q there. none q (cons_tail p ps q there)))

-- ---- those that are no inputs

among_filtered : (keep : ℕ → Bool) (xs : List ℕ) (n : ℕ) → is_among xs n ≡ true → is_among (filter keep xs) n ≡ keep n
among_filtered keep xs n there = by (keep n) refl
  where
    by : (b : Bool) → keep n ≡ b → is_among (filter keep xs) n ≡ b
    by true is = among_from (filter keep xs) n (in_filter keep xs n (among_to xs n there) is)
    by false is = false_from_ne_true (is_among (filter keep xs) n) (λ among. both_ways (keep n) is (of_filter keep xs n (among_to (filter keep xs) n among)).1)

pub filter_ids : (keep : ℕ → Bool) (parts : List LiveSegment) → filter keep (ids_of parts) ≡ ids_of (filter (λ p. keep p.head.id) parts)
filter_ids keep [] = refl
filter_ids keep (p ∷ ps) = by (keep p.head.id) (filter keep (ids_of ps)) (filter (λ (q : LiveSegment). keep q.head.id) ps) (filter_ids keep ps)
  where
    by : (b : Bool) (ns : List ℕ) (qs : List LiveSegment) → ns ≡ ids_of qs → cond b (p.head.id ∷ ns) ns ≡ ids_of (cond b (p ∷ qs) qs)
    by true ns qs same = ap (λ (ms : List ℕ). p.head.id ∷ ms) same
    by false ns qs same = same

abbrev free : List ℕ → ℕ → Bool
free inputs id = not (is_among inputs id)

module _ (inputs ids : List ℕ) (parts : List LiveSegment) (are : ids ≡ filter (λ id. not (is_among inputs id)) (ids_of parts)) where
  among_is : (p : LiveSegment) → Contains parts p → is_among ids p.head.id ≡ not (is_among inputs p.head.id)
  among_is p there = ap (λ (ns : List ℕ). is_among ns p.head.id) are ∙ among_filtered (free inputs) (ids_of parts) p.head.id (id_of_part parts p there)

  pub among_free : parts_among ids parts ≡ parts_but inputs parts
  among_free = filter_alike (λ (p : LiveSegment). is_among ids p.head.id) (λ (p : LiveSegment). not (is_among inputs p.head.id)) parts among_is

  pub length_free : length ids ≡ length (parts_but inputs parts)
  length_free = ap length (are ∙ filter_ids (free inputs) parts) ∙ length-map (parts_but inputs parts) (λ (p : LiveSegment). p.head.id)

  -- merging these would change nothing exactly where it would be so of those that are no inputs
  pub tidy_to : (length ids ≤ 1) × All IsWhole (parts_among ids parts) → (length (parts_but inputs parts) ≤ 1) × All IsWhole (parts_but inputs parts)
  tidy_to h = (omega (arith, h.0, length_free), subst (All IsWhole) among_free h.1)

  pub tidy_from : (length (parts_but inputs parts) ≤ 1) × All IsWhole (parts_but inputs parts) → (length ids ≤ 1) × All IsWhole (parts_among ids parts)
  tidy_from h = (omega (arith, h.0, length_free), subst (All IsWhole) (sym among_free) h.1)

  pub none_free : parts_but inputs (parts_but ids parts) ≡ []
  none_free = keeps_none (λ (p : LiveSegment). not (is_among inputs p.head.id)) (parts_but ids parts) each
    where
      each : (p : LiveSegment) → Contains (parts_but ids parts) p → not (is_among inputs p.head.id) ≡ false
      each p there =
          let kept = of_filter (λ (q : LiveSegment). not (is_among ids q.head.id)) parts p there in
          sym (among_is p kept.0) ∙ not-true (is_among ids p.head.id) kept.1

-- at most one segment, with an index of form 3
abbrev pub IsOne : List LiveSegment → Type 0
IsOne parts = (length parts ≤ 1) × All (λ p. p.head.index.form ≡ 3) parts

-- where merging would change nothing there is one already
pub settled_one : (inputs ids : List ℕ) (parts : List LiveSegment) → ids ≡ filter (λ id. not (is_among inputs id)) (ids_of parts) → length ids ≤ 1
    → All IsWhole (parts_among ids parts) → IsOne (parts_but inputs parts)
settled_one inputs ids parts are few whole = (
  omega (arith, few, length_free inputs ids parts are),
  All-weaker IsWhole (λ (p : LiveSegment). p.head.index.form ≡ 3) (λ p w. w.form) (parts_but inputs parts)
      (subst (All IsWhole) (among_free inputs ids parts are) whole),
)

-- what is built has an index of form 3
built_form : (D : ℕ) (n : NewSegmentData) → ∥ HasUncrowded D n ∥₁ → n.index.form ≡ 3
built_form D n has = ∥∥₁_elim has (hlevel props) (λ some. some.has.built.form)

-- where all that are no inputs are merged what is built is the only one of them
pub merged_one : (D : ℕ) (told : Type 0) (leaf_size : ℕ) (before after : NameList) (files new_files : Files) (inputs ids : List ℕ)
    (old new : List LiveSegment)
    → ids ≡ filter (λ id. not (is_among inputs id)) (ids_of old) → ((id : ℕ) → is_among inputs id ≡ true → is_named before.names (Segment id) ≡ true)
    → IsMerged D told leaf_size before after files new_files ids old new → IsOne (parts_but inputs new)
merged_one D told leaf_size before after files new_files inputs ids old new are named m = by m.built m.replaces (λ n is. (m.gathered n is).made.has)
  where
    none : parts_but inputs (parts_but ids old) ≡ []
    none = none_free inputs ids old are

    by : (built : Option NewSegmentData) → Replaces D told before after new_files ids built old new
        → ((n : NewSegmentData) → built ≡ Some n → ∥ HasUncrowded D n ∥₁) → IsOne (parts_but inputs new)
    by None r has = subst IsOne (sym (ap (parts_but inputs) r ∙ none)) (omega arith, All-nil (λ (p : LiveSegment). p.head.index.form ≡ 3))
    by (Some n) r has =
        let placed = but_placed inputs (part_at r.id n) (parts_but ids old) new r.placed
        (free_id D told before after new_files ids old new inputs r.id r.fresh named) in (
          omega (arith, length_placed (part_at r.id n) (parts_but inputs (parts_but ids old)) (parts_but inputs new) placed, ap length none),
          all_placed (λ (p : LiveSegment). p.head.index.form ≡ 3) (part_at r.id n) (parts_but inputs (parts_but ids old)) (parts_but inputs new) placed
              (built_form D n (has n refl))
              (subst (All (λ (p : LiveSegment). p.head.index.form ≡ 3)) (sym none) (All-nil (λ (p : LiveSegment). p.head.index.form ≡ 3))),
        )

-- at each place one segment more
pub wholes_more : (ids : List ℕ) (parts : List LiveSegment) (i : ℕ) (p : LiveSegment) → slice_get parts i ≡ Some p
    → All IsWhole (parts_among ids (take i parts))
    → (is_among ids p.head.id ≡ true → IsWhole p)
    → All IsWhole (parts_among ids (take (i + 1) parts))
wholes_more ids parts i p at all here =
    subst (λ (ps : List LiveSegment). All IsWhole (parts_among ids ps)) (sym (parts_more parts i p at))
    (subst (All IsWhole) (sym (filter-append (λ (q : LiveSegment). is_among ids q.head.id) (take i parts) (p ∷ [])))
    (All-append IsWhole (parts_among ids (take i parts)) (parts_among ids (p ∷ [])) all (by (is_among ids p.head.id) here)))
  where
    by : (b : Bool) → (b ≡ true → IsWhole p) → All IsWhole (cond b (p ∷ []) [])
    by true whole = All-cons IsWhole p [] (whole refl) (All-nil IsWhole)
    by false whole = All-nil IsWhole

pub kept_whole : (among whole : Bool) → (among && not whole) ≡ false → among ≡ true → whole ≡ true
kept_whole true true h is = refl
kept_whole true false h is = cc
kept_whole false whole h is = cc

-- one that isn't whole is none of segments that all are
pub not_whole : (ids : List ℕ) (parts : List LiveSegment) (p : LiveSegment) (among whole : Bool) → Contains parts p → among ≡ is_among ids p.head.id
    → (IsWhole p → whole ≡ true) → (among && not whole) ≡ true → All IsWhole (parts_among ids parts) → ⊥
not_whole ids parts p true true there among is h all = cc
not_whole ids parts p true false there among is h all =
    let here = All-contains IsWhole (parts_among ids parts) p all (in_filter (λ (q : LiveSegment). is_among ids q.head.id) parts p there (sym among)) in
    let yes = is here in cc
not_whole ids parts p false whole there among is h all = cc
