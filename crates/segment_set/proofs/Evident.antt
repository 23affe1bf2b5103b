-- A damage is shown by what it carries and is true of the files, from what the crates below say of it.
use Rattle.std.proofs.Common.{◌≡◌, ◌≢◌, ℕ, ◌<◌, List, [], ◌∷◌, length, sym, subst, ◌∙◌, inr, arith}
use Rattle.std.proofs.Math.Logic.{∥∥₁_elim, ∥∥₁_map, ∥∥₁_prop}
use Rattle.std.proofs.lemmas.Grind.{merely}
use Rattle.std.specs.List.{All}
use Rattle.std.proofs.lemmas.List.Elements.{All-nil, All-cons, All-head, All-tail}
use Rattle.outer_io.specs.Files.{Files}
use Rattle.point_codec.specs.Points.{Item}
use Rattle.page_cache.specs.Evidence.{IsShown}
use Rattle.page_cache.specs.declared.faults.Damage.{Damage}
use Rattle.page_cache.specs.declared.faults.Damage.TheVariants.{Page, Leaf, Body, Missing, Size, Unequal, NotGiven, Doubled}
use Rattle.segment_file.specs.Heads.{Head, HasRanges}
use Rattle.segment_view.specs.LiveSegments.{LiveSegment, parts_among}
use Rattle.segment_view.specs.Held.{HasOwnHead, AreHeld}
use Rattle.segment_set.specs.Damages.{IsDoubt, IsEvidentIn, IsOfParts}
use Rattle.index_opening.specs.Evidence.{HasNoBody, IsCrowdedIn, IsHeadIn, IsOfPart, IsTrueOf, LacksLeaf}
use Rattle.segment_set.specs.Faithful.{HasFileHead}
use Rattle.segment_set.specs.Losing.{KeepsCounts}
use Rattle.segment_set.specs.Sets.{AreAlone, SetData}
use Rattle.segment_set.proofs.Crowds.{among_crowded}
use Rattle.segment_set.proofs.SomeHeld.{some_among, some_held, sum_one}

-- ---- entries that are none of documents

doubt_shows : (P : ℕ → Head → Type 0) (points_given : ℕ) (items : List Item) (d : Damage) → IsDoubt points_given items d → IsShown (LacksLeaf P) HasNoBody d
doubt_shows P points_given items (Unequal file said found) h =
    let is : said ≡ points_given = h.1 in
    let more : points_given < found = h.2 in
    let apart : said ≢ found = omega arith in apart
doubt_shows P points_given items (Doubled doc) h = tt
doubt_shows P points_given items (Page file number bytes) h = absurd h
doubt_shows P points_given items (Leaf file number offset len bytes) h = absurd h
doubt_shows P points_given items (Body file bytes) h = absurd h
doubt_shows P points_given items (Missing file) h = absurd h
doubt_shows P points_given items (Size file size needed) h = absurd h
doubt_shows P points_given items (NotGiven doc next) h = absurd h

-- what is known to be there of each is there of all
all_merely : {A : Type 0} (P : A → Type 0) (xs : List A) → All (λ x. ∥ P x ∥₁) xs → ∥ All P xs ∥₁
all_merely P [] h = merely (All-nil P)
all_merely P (x ∷ xs) h =
    ∥∥₁_elim (All-head (λ y. ∥ P y ∥₁) x xs h) ∥∥₁_prop (λ p. ∥∥₁_map (all_merely P xs (All-tail (λ y. ∥ P y ∥₁) x xs h)) (λ ps. All-cons P x xs p ps))

-- entries that were gathered of segments whose heads are those of their files
pub gathered_of_files : (D : ℕ) (files : Files) (ids : List ℕ) (parts : List LiveSegment) (items : List Item) → All (HasFileHead D files) parts
    → (All (HasOwnHead D files) parts → AreHeld D files (parts_among ids parts) items) → ∥ AreHeld D files (parts_among ids parts) items ∥₁
gathered_of_files D files ids parts items heads held = ∥∥₁_map (all_merely (HasOwnHead D files) parts heads) held

doubt_carried : (D : ℕ) (files new_files : Files) (points_given : ℕ) (ids : List ℕ) (parts : List LiveSegment) (items : List Item) → AreAlone parts
    → new_files ≡ files → AreHeld D files (parts_among ids parts) items → (d : Damage) → IsDoubt points_given items d
    → IsTrueOf (IsOfPart parts) (IsOfParts D files new_files parts 0 points_given) new_files d
doubt_carried D files new_files points_given ids parts items alone same held (Unequal file said found) h =
    let all = some_among D files ids parts items (some_held D files (parts_among ids parts) items held) in
    inr (h.0, h.1, h.2, (all.items, all.held, omega (arith, h.3, all.totals (λ _. 1), sum_one all.items, sum_one items)))
doubt_carried D files new_files points_given ids parts items alone same held (Doubled doc) h =
    among_crowded D new_files ids parts items doc alone (subst (λ (f : Files). AreHeld D f (parts_among ids parts) items) (sym same) held) h
doubt_carried D files new_files points_given ids parts items alone same held (Page file number bytes) h = absurd h
doubt_carried D files new_files points_given ids parts items alone same held (Leaf file number offset len bytes) h = absurd h
doubt_carried D files new_files points_given ids parts items alone same held (Body file bytes) h = absurd h
doubt_carried D files new_files points_given ids parts items alone same held (Missing file) h = absurd h
doubt_carried D files new_files points_given ids parts items alone same held (Size file size needed) h = absurd h
doubt_carried D files new_files points_given ids parts items alone same held (NotGiven doc next) h = absurd h

pub doubt_evident : (T : Type 0) (D : ℕ) (files new_files : Files) (points_given : ℕ) (ids : List ℕ) (parts : List LiveSegment) (items : List Item) (d : Damage)
    → (T → AreAlone parts) → (T → new_files ≡ files)
    → (T → ∥ AreHeld D files (parts_among ids parts) items ∥₁)
    → IsDoubt points_given items d → IsEvidentIn D files parts 0 points_given T new_files d
doubt_evident T D files new_files points_given ids parts items d alone same held h = record {
  shows = merely (doubt_shows HasRanges points_given items d h);
  of_files = λ t. record {
    shows = merely (doubt_shows (IsHeadIn new_files) points_given items d h);
    carries = ∥∥₁_map (held t) (λ read. doubt_carried D files new_files points_given ids parts items (alone t) (same t) read d h);
  };
}

-- ---- of more that waits, and of a set before

pub more_waits : (D : ℕ) (f g : Files) (parts : List LiveSegment) (waiting points_given : ℕ) (d : Damage) → IsOfParts D f g parts 0 points_given d
    → IsOfParts D f g parts waiting points_given d
more_waits D f g parts waiting points_given (Unequal file said found) (is, of, more, (items, held, few)) =
    (is, of, more, (items, held, omega (arith, few)))
more_waits D f g parts waiting points_given (Doubled doc) h = h
more_waits D f g parts waiting points_given (Page file number bytes) h = absurd h
more_waits D f g parts waiting points_given (Leaf file number offset len bytes) h = absurd h
more_waits D f g parts waiting points_given (Body file bytes) h = absurd h
more_waits D f g parts waiting points_given (Missing file) h = absurd h
more_waits D f g parts waiting points_given (Size file size needed) h = absurd h
more_waits D f g parts waiting points_given (NotGiven doc next) h = absurd h

pub parts_before : (D : ℕ) (f g h : Files) (s t : SetData) → t.points_given ≡ s.points_given → KeepsCounts D f g s t
    → ((doc : ℕ) → IsCrowdedIn D h t.parts doc → IsCrowdedIn D h s.parts doc) → (d : Damage)
    → IsOfParts D g h t.parts (length t.buffer) t.points_given d → ∥ IsOfParts D f h s.parts (length s.buffer) s.points_given d ∥₁
parts_before D f g h s t given counts crowds (Unequal file said found) (is, of, more, (items, held, few)) =
    ∥∥₁_map (counts.come items held)
    (λ (was, of_was, fewer). (is, of ∙ given, omega (arith, more, given), (was, of_was, omega (arith, few, fewer, given))))
parts_before D f g h s t given counts crowds (Doubled doc) crowd = merely (crowds doc crowd)
parts_before D f g h s t given counts crowds (Page file number bytes) k = absurd k
parts_before D f g h s t given counts crowds (Leaf file number offset len bytes) k = absurd k
parts_before D f g h s t given counts crowds (Body file bytes) k = absurd k
parts_before D f g h s t given counts crowds (Missing file) k = absurd k
parts_before D f g h s t given counts crowds (Size file size needed) k = absurd k
parts_before D f g h s t given counts crowds (NotGiven doc next) k = absurd k
