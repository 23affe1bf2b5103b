-- Lists of segments and their bytes: no bytes are those of two lists.
use Rattle.std.proofs.Common.{◌≡◌, ◌<◌, ◌≤◌, ◌+◌, ◌-◌, ◌*◌, ◌^◌, ℕ, List, [], ◌∷◌, ◌++◌, length, get_or, take}
use Rattle.std.proofs.Common.{inl, inr, refl, sym, ap, subst, ◌∙◌, arith, append_assoc, length-append, All}
use Rattle.std.specs.Int.{w32, w64, to_be_bytes}
use Rattle.std.specs.List.{flat_map}
use Rattle.std.proofs.lemmas.List.Elements.{All-head, All-tail, All-nil, All-push, All-more}
use Rattle.std.proofs.lemmas.List.{get_or-map, get_or_default, length-map, append-nil, flat_map_more, take_more, take_all}
use Rattle.std.proofs.lemmas.Bool.{cases_lt}
use Rattle.byte_cursor.proofs.Numbers.{spelling_unique}
use Rattle.commit_list.specs.declared.listed.Listed.{Listed}
use Rattle.commit_list.specs.Commits.{ids_of, IsListed, AreListed}
use Rattle.commit_list.specs.Layout.{spell_listed, FitsListed, SpellsList}

pub listed-parts : (s : Listed) (rest : List ℕ) → spell_listed s ++ rest
    ≡ to_be_bytes w64 s.segment ++ (to_be_bytes w64 s.generation ++ (to_be_bytes w32 s.entries ++ (to_be_bytes w32 s.live ++ rest)))
unfolding spell_listed
listed-parts s rest = refl

listed-length : (s : Listed) (rest : List ℕ) → length (spell_listed s ++ rest) ≡ 24 + length rest
listed-length s rest = omega (arith, ap length (listed-parts s rest))

pub list-length : (listed : List Listed) → length (flat_map spell_listed listed) ≡ 24 * length listed
list-length [] = refl
list-length (s ∷ listed) = omega (arith, listed-length s (flat_map spell_listed listed), list-length listed)

listed_unique : (s t : Listed) (x y : List ℕ) → FitsListed s → FitsListed t → spell_listed s ++ x ≡ spell_listed t ++ y → (s ≡ t) × (x ≡ y)
listed_unique s t x y p q e =
    let segment = spelling_unique w64 s.segment t.segment _ _ p.segment q.segment (sym (listed-parts s x) ∙ e ∙ listed-parts t y) in
    let generation = spelling_unique w64 s.generation t.generation _ _ p.generation q.generation segment.1 in
    let entries = spelling_unique w32 s.entries t.entries _ _ p.entries q.entries generation.1 in
    let live = spelling_unique w32 s.live t.live x y p.live q.live entries.1 in
    (λ i. record { segment = segment.0 i; generation = generation.0 i; entries = entries.0 i; live = live.0 i }, live.1)

pub lists_unique : (xs ys : List Listed) → All FitsListed xs → All FitsListed ys → length xs ≡ length ys → flat_map spell_listed xs ≡ flat_map spell_listed ys
    → xs ≡ ys
lists_unique [] [] p q len e = refl
lists_unique [] (y ∷ ys) p q len e = absurd (omega arith)
lists_unique (x ∷ xs) [] p q len e = absurd (omega arith)
lists_unique (x ∷ xs) (y ∷ ys) p q len e =
    let first = listed_unique x y (flat_map spell_listed xs) (flat_map spell_listed ys) (All-head FitsListed x xs p) (All-head FitsListed y ys q) e in
    let rest = lists_unique xs ys (All-tail FitsListed x xs p) (All-tail FitsListed y ys q) (omega arith) first.1 in
    λ i. first.0 i ∷ rest i

pub fits_listed : (next_segment : ℕ) (listed : List Listed) → next_segment < 2 ^ 64 → All (λ s. s.generation < 2 ^ 64) listed → AreListed next_segment listed
    → All FitsListed listed
fits_listed next_segment listed below generations are k d lt =
    let is = are.each k d lt in
    record { segment = omega (arith, is.id); generation = generations k d lt; entries = omega (arith, is.most); live = omega (arith, is.live, is.most) }

-- ---- the loop over a list: the first i segments may be listed, and the next one has at least the id `least`

pub record Reaches (next_segment : ℕ) (listed : List Listed) (i least : ℕ) : Type 0 where
  pub rising : (k : ℕ) → k + 1 < i → get_or (ids_of listed) k 0 < get_or (ids_of listed) (k + 1) 0
  pub each : (k : ℕ) (d : Listed) → k < i → IsListed next_segment (get_or listed k d)
  pub start : i ≡ 0 → least ≡ 0
  pub above : 0 < i → least ≡ get_or (ids_of listed) (i - 1) 0 + 1

pub reaches-none : (next_segment : ℕ) (listed : List Listed) → Reaches next_segment listed 0 0
reaches-none next_segment listed = record {
  rising = λ k lt. absurd (omega arith);
  each = λ k d lt. absurd (omega arith);
  start = λ e. refl;
  above = λ lt. absurd (omega arith);
}

id_at : (listed : List Listed) (i : ℕ) (d : Listed) → i < length listed → get_or (ids_of listed) i 0 ≡ (get_or listed i d).segment
id_at listed i d lt = get_or-map (λ (x : Listed). x.segment) listed i d 0 lt

pub reaches-more : (next_segment : ℕ) (listed : List Listed) (i least : ℕ) (d : Listed) → i < length listed → IsListed next_segment (get_or listed i d)
    → least ≤ (get_or listed i d).segment → Reaches next_segment listed i least → Reaches next_segment listed (i + 1) ((get_or listed i d).segment + 1)
reaches-more next_segment listed i least d lt is le h =
    let here = id_at listed i d lt in
    record {
      rising = λ k below. elim (cases_lt (k + 1) i) [
        | inl old ↦ h.rising k old
        | inr new ↦
            let at : k + 1 ≡ i = omega arith in
            let one_less : i - 1 ≡ k = omega arith in
            let floor = h.above (omega arith) in
            let last : get_or (ids_of listed) (i - 1) 0 ≡ get_or (ids_of listed) k 0 = ap (λ (n : ℕ). get_or (ids_of listed) n 0) one_less in
            let next : get_or (ids_of listed) (k + 1) 0 ≡ (get_or listed i d).segment = ap (λ (n : ℕ). get_or (ids_of listed) n 0) at ∙ here in
            omega (arith, floor, last, next)
      ];
      each = λ k e below. elim (cases_lt k i) [
        | inl old ↦ h.each k e old
        | inr new ↦
            let at : i ≡ k = omega arith in
            subst (λ (n : ℕ). IsListed next_segment (get_or listed n e)) at (subst (IsListed next_segment) (get_or_default listed i d e lt) is)
      ];
      start = λ zero. absurd (omega arith);
      above = λ some. let one_less : i + 1 - 1 ≡ i = omega arith in sym (ap (λ (n : ℕ). get_or (ids_of listed) n 0 + 1) one_less ∙ ap (λ (n : ℕ). n + 1) here);
    }

pub reaches-all : (next_segment : ℕ) (listed : List Listed) (least : ℕ) → Reaches next_segment listed (length listed) least → AreListed next_segment listed
reaches-all next_segment listed least h = record {
  rising = λ k lt. h.rising k (omega (arith, length-map listed (λ (x : Listed). x.segment)));
  each = λ k d lt. h.each k d lt;
}

-- a segment whose id isn't above the one before it
pub reaches-not : (next_segment : ℕ) (listed : List Listed) (i least : ℕ) (d : Listed) → i < length listed → (get_or listed i d).segment < least
    → Reaches next_segment listed i least → AreListed next_segment listed → ⊥
reaches-not next_segment listed i least d lt low h are =
    elim (cases_lt 0 i) [
      | inl some ↦
          let at : i - 1 + 1 ≡ i = omega arith in
          let order = are.rising (i - 1) (omega (arith, length-map listed (λ (x : Listed). x.segment))) in
          let next : get_or (ids_of listed) (i - 1 + 1) 0 ≡ (get_or listed i d).segment = ap (λ (n : ℕ). get_or (ids_of listed) n 0) at ∙ id_at listed i d lt in
          omega (arith, h.above some, order, next)
      | inr none ↦ let floor = h.start (omega arith) in omega arith
    ]

-- ---- the loop that reads a list: i segments are read, and the rest is left

pub record Reads (bytes rest : List ℕ) (i : ℕ) (listed : List Listed) : Type 0 where
  pub long : length listed ≡ i
  pub spelling : bytes ≡ flat_map spell_listed listed ++ rest
  pub fits : All FitsListed listed

pub reads-none : (bytes rest : List ℕ) (listed : List Listed) → rest ≡ bytes → listed ≡ [] → Reads bytes rest 0 listed
reads-none bytes rest listed e n = record {
  long = ap length n;
  spelling = rw n (sym e);
  fits = rw n (All-nil FitsListed);
}

pub reads-more : (bytes rest new : List ℕ) (i : ℕ) (listed longer : List Listed) (s : Listed) → FitsListed s → rest ≡ spell_listed s ++ new
    → longer ≡ listed ++ s ∷ []
    → Reads bytes rest i listed → Reads bytes new (i + 1) longer
reads-more bytes rest new i listed longer s below e p h =
    rw p (record {
      long = omega (arith, length-append listed (s ∷ []), h.long);
      spelling = h.spelling ∙ ap (λ (r : List ℕ). flat_map spell_listed listed ++ r) e ∙ sym (append_assoc (flat_map spell_listed listed) (spell_listed s) new)
          ∙ ap (λ (r : List ℕ). r ++ new) (flat_map_more spell_listed [] listed s);
      fits = All-push FitsListed listed s h.fits below;
    })

-- the length of the bytes is that of the list and of the rest
pub reads-length : (bytes rest : List ℕ) (i : ℕ) (listed : List Listed) → Reads bytes rest i listed → length bytes ≡ 24 * i + length rest
reads-length bytes rest i listed h =
    omega (arith, ap length h.spelling, length-append (flat_map spell_listed listed) rest, list-length listed, h.long)

pub reads-all : (bytes rest : List ℕ) (i : ℕ) (listed : List Listed) → rest ≡ [] → Reads bytes rest i listed → SpellsList bytes i listed
reads-all bytes rest i listed none h = record {
  long = h.long;
  spelling = h.spelling ∙ ap (λ (r : List ℕ). flat_map spell_listed listed ++ r) none ∙ append-nil (flat_map spell_listed listed);
  fits = h.fits;
}

-- ---- the loop that writes a list: the first i segments are written

pub record Writes (old new : List ℕ) (listed : List Listed) (i : ℕ) : Type 0 where
  pub spelling : new ≡ old ++ flat_map spell_listed (take i listed)
  pub generations : All (λ s. s.generation < 2 ^ 64) (take i listed)

pub writes-none : (old new : List ℕ) (listed : List Listed) → new ≡ old → Writes old new listed 0
writes-none old new listed e = record { spelling = e ∙ sym (append-nil old); generations = All-nil (λ (s : Listed). s.generation < 2 ^ 64) }

pub writes-more : (old new longer : List ℕ) (listed : List Listed) (i : ℕ) (d : Listed) → i < length listed → (get_or listed i d).generation < 2 ^ 64
    → longer ≡ new ++ spell_listed (get_or listed i d) → Writes old new listed i → Writes old longer listed (i + 1)
writes-more old new longer listed i d lt below e h = record {
  spelling = e ∙ ap (λ (xs : List ℕ). xs ++ spell_listed (get_or listed i d)) h.spelling ∙ flat_map_more spell_listed old (take i listed) (get_or listed i d)
      ∙ ap (λ (xs : List Listed). old ++ flat_map spell_listed xs) (sym (take_more listed i d lt));
  generations = All-more (λ (s : Listed). s.generation < 2 ^ 64) listed i d lt h.generations below;
}

pub writes-all : (old new : List ℕ) (listed : List Listed) (i : ℕ) → length listed ≤ i → Writes old new listed i
    → (new ≡ old ++ flat_map spell_listed listed) × All (λ s. s.generation < 2 ^ 64) listed
writes-all old new listed i le h =
    let whole : take i listed ≡ listed = take_all i listed le in
    (h.spelling ∙ ap (λ (xs : List Listed). old ++ flat_map spell_listed xs) whole, subst (All (λ (s : Listed). s.generation < 2 ^ 64)) whole h.generations)

pub none_left : (xs : List ℕ) → length xs ≡ 0 → xs ≡ []
none_left [] e = refl
none_left (x ∷ xs) e = absurd (omega arith)
