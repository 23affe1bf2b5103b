-- Where the live entries of a session come from that are more than the points given.
use Rattle.std.proofs.Common.{◌≡◌, ◌≤◌, ◌<◌, ◌+◌, ℕ, List, [], ◌∷◌, length, map, refl, sym, ap, subst, arith}
use Rattle.std.proofs.Math.Logic.{∥∥₁_elim, ∥∥₁_map, ∥∥₁_prop}
use Rattle.std.proofs.lemmas.Grind.{merely}
use Rattle.std.specs.List.{AllZip, Contains}
use Rattle.outer_io.specs.declared.file_name.FileName.{FileName}
use Rattle.outer_io.specs.declared.file_name.FileName.TheVariants.{Commit, Segment, Live}
use Rattle.outer_io.specs.Files.{Files, bytes_of}
use Rattle.live_bits.specs.LiveSet.{LiveSet}
use Rattle.documents.proofs.Lists.{cons_head, cons_tail, in_map, of_map}
use Rattle.page_cache.specs.declared.faults.Damage.{Damage}
use Rattle.page_cache.specs.declared.faults.Damage.TheVariants.{Page, Leaf, Body, Missing, Size, Unequal, NotGiven, Doubled}
use Rattle.commit_list.specs.declared.listed.Listed.{Listed}
use Rattle.commit_list.specs.Commits.{CommitData}
use Rattle.commit_list.specs.CommitFiles.{IsCommitFile}
use Rattle.stored_index.specs.Kept.{ListsFile}
use Rattle.stored_index.specs.Stored.{HasLive, HaveLive}
use Rattle.segment_view.specs.LiveSegments.{LiveSegment, ids_of, lives_of}
use Rattle.index_opening.specs.Evidence.{AreOfSome, IsCrowdedIn, IsExcess, IsOfEntries, IsTwice}
use Rattle.segment_set.specs.Sets.{SetData}
use Rattle.segment_set.specs.Damages.{IsOfParts}
use Rattle.segment_set.specs.Losing.{KeepsCounts}
use Rattle.segment_set.proofs.SomeHeld.{some_alike}
use Rattle.index_core.specs.Sessions.{IsAccounted}

-- ---- an excess

-- is so of fewer that are found, but more than were given
pub excess_less : (files : Files) (given said most found : ℕ) → said ≡ given → given < found → found ≤ most → IsExcess files given most
    → IsExcess files said found
excess_less files given said most found same more less e = record {
  commit = e.commit;
  says = e.says;
  parts = e.parts;
  ids = e.ids;
  lives = e.lives;
  items = e.items;
  held = e.held;
  later = omega (arith, e.later, same);
  more = omega (arith, more, same);
  excess = omega (arith, e.excess, less, same);
}

-- where the Commit file and the files that it lists stay
module _ (f g : Files) (commit_stays : g Commit ≡ f Commit)
    (stays : (c : CommitData) → IsCommitFile (bytes_of (f Commit)) c → (m : FileName) → ListsFile c m → g m ≡ f m) where
  lives_stay : (ls : List Listed) (sets : List LiveSet)
      → ((l : Listed) → Contains ls l → g (Live l.segment l.generation) ≡ f (Live l.segment l.generation)) → AllZip (HasLive f) ls sets
      → AllZip (HasLive g) ls sets
  lives_stay [] [] same h = tt
  lives_stay [] (s ∷ ss) same h = absurd h
  lives_stay (l ∷ ls) [] same h = absurd h
  lives_stay (l ∷ ls) (s ∷ ss) same h = (
    subst (λ b. HasLive (λ m. b) l s) (sym (same l (cons_head l ls))) h.0,
    lives_stay ls ss (λ k there. same k (cons_tail l ls k there)) h.1,
  )

  pub excess_stays : (said found : ℕ) → IsExcess f said found → IsExcess g said found
  excess_stays said found e = record {
    commit = e.commit;
    says = subst (λ b. IsCommitFile (bytes_of b) e.commit) (sym commit_stays) e.says;
    parts = e.parts;
    ids = e.ids;
    lives = lives_stay e.commit.listed (lives_of e.parts)
        (λ l there. stays e.commit e.says (Live l.segment l.generation) (l, there, refl, refl)) e.lives;
    items = e.items;
    held = some_alike e.commit.dims g f e.parts e.items (λ p there. sym (segment p there)) e.held;
    later = e.later;
    more = e.more;
    excess = e.excess;
  }
    where
      segment : (p : LiveSegment) → Contains e.parts p → g (Segment p.head.id) ≡ f (Segment p.head.id)
      segment p there =
          let l = of_map (λ (l : Listed). l.segment) e.commit.listed p.head.id
          (subst (λ (ns : List ℕ). Contains ns p.head.id) e.ids (in_map (λ (q : LiveSegment). q.head.id) e.parts p there)) in
          stays e.commit e.says (Segment p.head.id) (l.0, l.1, l.2)

-- ---- of a set

-- the entries of the set after a call come of those before
pub accounted_after : (D : ℕ) (f g : Files) (s t : SetData) → ((said found : ℕ) → IsExcess f said found → IsExcess g said found)
    → s.points_given ≤ t.points_given → KeepsCounts D f g s t → IsAccounted D f s → IsAccounted D g t
accounted_after D f g s t stays grows counts accounted items held more =
    ∥∥₁_elim (counts.come items held) ∥∥₁_prop
    (λ (was, of_was, fewer). ∥∥₁_map (accounted was of_was (omega (arith, more, fewer))) (λ e.
    let k = stays s.points_given (length was + length s.buffer) e in
    record {
      commit = k.commit;
      says = k.says;
      parts = k.parts;
      ids = k.ids;
      lives = k.lives;
      items = k.items;
      held = k.held;
      later = omega (arith, k.later, grows);
      more = more;
      excess = omega (arith, k.excess, fewer);
    }))

-- they are those that the commit lists
pub accounted_listed : (D : ℕ) (files : Files) (t : SetData) (c : CommitData) → c.dims ≡ D → IsCommitFile (bytes_of (files Commit)) c
    → ids_of t.parts ≡ map (λ l. l.segment) c.listed → HaveLive files c (lives_of t.parts) → t.buffer ≡ [] → t.points_given ≡ c.points_given
    → IsAccounted D files t
accounted_listed D files t c dims says ids lives empty given items held more = merely (record {
  commit = c;
  says = says;
  parts = t.parts;
  ids = ids;
  lives = lives;
  items = items;
  held = subst (λ n. AreOfSome n files t.parts items) (sym dims) held;
  later = omega (arith, given);
  more = more;
  excess = omega (arith, ap length empty, given);
})

-- a set without segments whose buffer has no more than was given
pub accounted_bare : (D : ℕ) (files : Files) (t : SetData) → t.parts ≡ [] → length t.buffer ≤ t.points_given → IsAccounted D files t
accounted_bare D files t none few items held more =
    let empty : items ≡ [] = subst (λ (ps : List LiveSegment). AreOfSome D files ps items) none held in
    absurd (omega (arith, ap length empty, more, few))

-- ---- what a damage shows

-- what is shown by the files of the segments is so by those that the commit lists
pub parts_entries : (D : ℕ) (f g : Files) (s : SetData) → IsAccounted D f s → ((said found : ℕ) → IsExcess f said found → IsExcess g said found)
    → ((doc : ℕ) → IsCrowdedIn D g s.parts doc → IsTwice g doc) → (d : Damage) → IsOfParts D f g s.parts (length s.buffer) s.points_given d
    → ∥ IsOfEntries g d ∥₁
parts_entries D f g s accounted stays crowds (Unequal file said found) (is, of, more, (items, held, few)) =
    ∥∥₁_map (accounted items held (omega (arith, more, few))) (λ e.
    (is, stays said found (excess_less f s.points_given said (length items + length s.buffer) found of more few e)))
parts_entries D f g s accounted stays crowds (Doubled doc) crowd = merely (crowds doc crowd)
parts_entries D f g s accounted stays crowds (Page file number bytes) h = absurd h
parts_entries D f g s accounted stays crowds (Leaf file number offset len bytes) h = absurd h
parts_entries D f g s accounted stays crowds (Body file bytes) h = absurd h
parts_entries D f g s accounted stays crowds (Missing file) h = absurd h
parts_entries D f g s accounted stays crowds (Size file size needed) h = absurd h
parts_entries D f g s accounted stays crowds (NotGiven doc next) h = absurd h
