-- Which damage is the first.
use Rattle.std.proofs.Common.{◌≡◌, ◌≢◌, ℕ, ◌<◌, List, length, take, get_or, sym, ap, subst, ◌∙◌}
use Rattle.std.specs.List.{AllZip, slice_get}
use Rattle.std.proofs.lemmas.Option.{slice_get-get_or}
use Rattle.outer_io.specs.declared.file_name.FileName.{FileName}
use Rattle.outer_io.specs.declared.file_name.FileName.TheVariants.{Segment, Live}
use Rattle.outer_io.specs.Files.{Files}
use Rattle.page_cache.specs.declared.faults.Damage.{Damage}
use Rattle.page_cache.specs.declared.faults.Damage.TheVariants.{Page, Leaf, Body, Missing, Size, Unequal, NotGiven, Doubled}
use Rattle.page_cache.specs.declared.faults.PageFault.{PageFault}
use Rattle.page_cache.specs.Evidence.{FaultShows}
use Rattle.page_cache.proofs.Damages.{fault_weaker}
use Rattle.commit_list.specs.declared.listed.Listed.{Listed}
use Rattle.commit_list.specs.Commits.{CommitData}
use Rattle.segment_file.specs.Damages.{IsHeadDamage, IsLiveDamage, IsPairDamage}
use Rattle.stored_index.specs.Stored.{HasHead}
use Rattle.segment_view.specs.LiveSegments.{LiveSegment}
use Rattle.index_opening.specs.Opened.{IsOpened}
use Rattle.index_opening.specs.First.{IsFirstIn, IsFirstListed, IsOfFile, OfHead, OfLive}

of_head : (id : ℕ) (d : Damage) → IsHeadDamage id d → IsOfFile (Segment id) d
of_head id (Page file number bytes) h = h.0
of_head id (Leaf file number offset len bytes) h = absurd h
of_head id (Body file bytes) h = h.0
of_head id (Missing file) h = h
of_head id (Size file size needed) h = h.0
of_head id (Unequal file said found) h = h.0
of_head id (NotGiven doc next) h = absurd h
of_head id (Doubled doc) h = absurd h

of_live : (segment generation : ℕ) (d : Damage) → IsLiveDamage segment generation d → IsOfFile (Live segment generation) d
of_live segment generation (Page file number bytes) h = h.0
of_live segment generation (Leaf file number offset len bytes) h = absurd h
of_live segment generation (Body file bytes) h = h.0
of_live segment generation (Missing file) h = h
of_live segment generation (Size file size needed) h = h.0
of_live segment generation (Unequal file said found) h = absurd h
of_live segment generation (NotGiven doc next) h = absurd h
of_live segment generation (Doubled doc) h = absurd h

of_pair : (name : FileName) (m n : ℕ) (d : Damage) → IsPairDamage name m n d × (m ≢ n) → IsOfFile name d
of_pair name m n (Page file number bytes) h = absurd h.0
of_pair name m n (Leaf file number offset len bytes) h = absurd h.0
of_pair name m n (Body file bytes) h = absurd h.0
of_pair name m n (Missing file) h = absurd h.0
of_pair name m n (Size file size needed) h = absurd h.0
of_pair name m n (Unequal file said found) h = h.0.0
of_pair name m n (NotGiven doc next) h = absurd h.0
of_pair name m n (Doubled doc) h = absurd h.0

pub head_of : (id : ℕ) (f : PageFault) → FaultShows (IsHeadDamage id) f → FaultShows (IsOfFile (Segment id)) f
head_of id f = fault_weaker f (IsHeadDamage id) (IsOfFile (Segment id)) (of_head id)

pub live_of : (segment generation : ℕ) (f : PageFault) → FaultShows (IsLiveDamage segment generation) f → FaultShows (IsOfFile (Live segment generation)) f
live_of segment generation f = fault_weaker f (IsLiveDamage segment generation) (IsOfFile (Live segment generation)) (of_live segment generation)

pub pair_of : (name : FileName) (m n : ℕ) (f : PageFault) → FaultShows (λ d. IsPairDamage name m n d × (m ≢ n)) f → FaultShows (IsOfFile name) f
pair_of name m n f = fault_weaker f (λ d. IsPairDamage name m n d × (m ≢ n)) (IsOfFile name) (of_pair name m n)

first_from : (T : Type 0) (mid files : Files) (c : CommitData) (s : Listed) (d : Damage) → (T → mid ≡ files) → IsFirstIn T mid c s d → IsFirstIn T files c s d
first_from T mid files c s d same (OfHead h) = OfHead h
first_from T mid files c s d same (OfLive head has leaf_size entries h) =
    OfLive head (λ t. subst (λ (f : Files). HasHead c.dims f s head) (same t) (has t)) leaf_size
    entries h

-- one segment more, as the loop over the list has it
pub first_next : (T : Type 0) (mid files : Files) (c : CommitData) (xs : List Listed) (i : ℕ) (s : Listed) (parts : List LiveSegment) (f : PageFault)
    → xs ≡ c.listed
    → (T → mid ≡ files) → i < length xs
    → AllZip (IsOpened T files c) (take i c.listed) parts → FaultShows (IsFirstIn T mid c (get_or xs i s)) f → FaultShows (IsFirstListed T files c) f
first_next T mid files c xs i s parts f is same lt opened =
    fault_weaker f (IsFirstIn T mid c (get_or xs i s)) (IsFirstListed T files c)
    (λ d here. record {
      place = i;
      segment = get_or xs i s;
      there = ap (λ (ys : List Listed). slice_get ys i) (sym is) ∙ slice_get-get_or xs i s lt;
      parts = parts;
      opened = opened;
      here = first_from T mid files c (get_or xs i s) d same here;
    })
