-- A damage of a leaf is shown by what it carries and is true of the files, from what reading the segment says of it.
use Rattle.std.proofs.Common.{◌≢◌, ℕ, ◌<◌, List, Result, refl, sym, subst, inr, arith}
use Rattle.std.proofs.Math.Logic.{∥∥₁_elim, ∥∥₁_map, ∥∥₁_prop}
use Rattle.std.specs.List.{All, Contains}
use Rattle.std.proofs.lemmas.List.Elements.{All-contains}
use Rattle.outer_io.specs.declared.file_name.FileName.{FileName}
use Rattle.outer_io.specs.declared.file_name.FileName.TheVariants.{Segment}
use Rattle.outer_io.specs.Files.{Files}
use Rattle.point_codec.specs.Points.{Region}
use Rattle.page_cache.specs.Evidence.{OnDamage, IsCut, IsShown}
use Rattle.page_cache.specs.declared.faults.Damage.{Damage}
use Rattle.page_cache.specs.declared.faults.Damage.TheVariants.{Page, Leaf, Body, Missing, Size, Unequal, NotGiven, Doubled}
use Rattle.page_cache.specs.declared.faults.PageFault.{PageFault}
use Rattle.inner_pack.specs.Places.{front}
use Rattle.inner_pack.specs.Trees.{IndexTree}
use Rattle.inner_pack.specs.Bodies.{HasTree}
use Rattle.segment_file.specs.Heads.{Head, HasRanges}
use Rattle.segment_file.specs.Damages.{IsLeafDamage, IsLeafDamageOf}
use Rattle.segment_file.proofs.Cut.{not_cut}
use Rattle.segment_view.specs.LiveSegments.{LiveSegment}
use Rattle.segment_view.specs.Damages.{IsPartDamage}
use Rattle.index_opening.specs.Evidence.{HasNoBody, IsEvidentWith, IsHeadIn, IsOfPart, IsTrueOf, LacksLeaf, MayBeNeeded}
use Rattle.index_opening.proofs.Evident.{on_told}

leaf_shows : (P : ℕ → Head → Type 0) (D : ℕ) (head : Head) (root : Region) (tree : IndexTree) → P D head → HasTree D head.index root tree → (d : Damage)
    → IsLeafDamage D head 0 front tree d
    → IsShown (LacksLeaf P) HasNoBody d
leaf_shows P D head root tree is has (Page file number bytes) h =
    subst (λ (name : FileName). IsShown (LacksLeaf P) HasNoBody (Page name number bytes)) (sym h.0) h.1
leaf_shows P D head root tree is has (Leaf file number offset len bytes) h = (
  (subst (λ (name : FileName). IsShown (λ file page from long part. Unit {0}) HasNoBody (Leaf name number offset len bytes)) (sym h.0) (h.1, tt)).0,
  record { D = D; head = head; is = is; root = root; tree = tree; has = has; file_is = h.0; none = h.2 },
)
leaf_shows P D head root tree is has (Size file size needed) h = let short : size < needed = h.1 in let apart : size ≢ needed = omega arith in apart
leaf_shows P D head root tree is has (Body file bytes) h = absurd h
leaf_shows P D head root tree is has (Missing file) h = absurd h
leaf_shows P D head root tree is has (Unequal file said found) h = absurd h
leaf_shows P D head root tree is has (NotGiven doc next) h = absurd h
leaf_shows P D head root tree is has (Doubled doc) h = absurd h

-- the head is that of its file, which has the pages of all leaves then
leaf_carried : (O : FileName → Type 0) (W : Damage → Type 0) (D : ℕ) (files : Files) (head : Head) (root : Region) (tree : IndexTree)
    → MayBeNeeded O files (Segment head.id) → IsHeadIn files D head
    → HasTree D head.index root tree → (d : Damage) → IsLeafDamage D head 0 front tree d
    → IsLeafDamageOf files d → IsTrueOf O W files d
leaf_carried O W D files head root tree may is has (Page file number bytes) shown h = (h, subst (MayBeNeeded O files) (sym shown.0) may)
leaf_carried O W D files head root tree may is has (Leaf file number offset len bytes) shown h = (h, subst (MayBeNeeded O files) (sym shown.0) may)
leaf_carried O W D files head root tree may is has (Size file size needed) shown h =
    absurd (not_cut D files head root tree size needed is has shown.2 (subst (λ (name : FileName). IsCut files name size needed) shown.0 h))
leaf_carried O W D files head root tree may is has (Body file bytes) shown h = absurd h
leaf_carried O W D files head root tree may is has (Missing file) shown h = absurd h
leaf_carried O W D files head root tree may is has (Unequal file said found) shown h = absurd h
leaf_carried O W D files head root tree may is has (NotGiven doc next) shown h = absurd h
leaf_carried O W D files head root tree may is has (Doubled doc) shown h = absurd h

-- of a segment that is read, whose head is that of its file
pub part_evident : (O : FileName → Type 0) (W : Damage → Type 0) (T : Type 0) (D : ℕ) (files : Files) (parts : List LiveSegment) (d : Damage)
    → (T → All (λ (q : LiveSegment). ∥ IsHeadIn files D q.head ∥₁) parts)
    → (T → (p : LiveSegment) → Contains parts p → MayBeNeeded O files (Segment p.head.id)) → (T → IsLeafDamageOf files d) → IsPartDamage D parts d
    → IsEvidentWith O W T files d
part_evident O W T D files parts d heads may truth (p, there, read) = record {
  shows = ∥∥₁_map read (λ r. leaf_shows HasRanges D p.head r.root r.tree r.ranges r.has d r.shows);
  of_files = λ t. record {
    shows = ∥∥₁_elim (All-contains (λ (q : LiveSegment). ∥ IsHeadIn files D q.head ∥₁) parts p (heads t) there) ∥∥₁_prop
        (λ is. ∥∥₁_map read (λ r. leaf_shows (IsHeadIn files) D p.head r.root r.tree is r.has d r.shows));
    carries = ∥∥₁_elim (All-contains (λ (q : LiveSegment). ∥ IsHeadIn files D q.head ∥₁) parts p (heads t) there) ∥∥₁_prop
        (λ is. ∥∥₁_map read (λ r. leaf_carried O W D files p.head r.root r.tree (may t p there) is r.has d r.shows (truth t)));
  };
}

pub on_part_evident : {X : Type 0} (O : FileName → Type 0) (W : Damage → Type 0) (T : Type 0) (D : ℕ) (files : Files) (parts : List LiveSegment)
    (r : Result X PageFault)
    → (T → All (λ (q : LiveSegment). ∥ IsHeadIn files D q.head ∥₁) parts)
    → (T → (p : LiveSegment) → Contains parts p → MayBeNeeded O files (Segment p.head.id)) → (T → OnDamage r (IsLeafDamageOf files))
    → OnDamage r (IsPartDamage D parts) → OnDamage r (IsEvidentWith O W T files)
on_part_evident O W T D files parts r heads may =
    on_told T r (IsLeafDamageOf files) (IsPartDamage D parts) (IsEvidentWith O W T files)
    (λ d truth read. part_evident O W T D files parts d heads may truth read)

-- one of these segments, whichever they are
pub of_part : (files : Files) (parts : List LiveSegment) (p : LiveSegment) → Contains parts p → MayBeNeeded (IsOfPart parts) files (Segment p.head.id)
of_part files parts p there = inr (inr (p, there, refl))
