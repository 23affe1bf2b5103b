-- Heads in their parts; no bytes begin with two heads.
use Rattle.std.proofs.Common.{◌≡◌, ◌<◌, ◌+◌, ◌^◌, ℕ, List, ◌∷◌, ◌++◌, length, get_or, refl, sym, ap, subst, ◌∙◌, arith, append_assoc}
use Rattle.std.specs.Prelude.{codes}
use Rattle.std.specs.Int.{w16, w32, w64, to_be_bytes}
use Rattle.std.proofs.lemmas.List.{append_cancel_left}
use Rattle.byte_cursor.proofs.Numbers.{spelling_unique}
use Rattle.commit_list.specs.declared.head.Layout.{Layout}
use Rattle.commit_list.specs.declared.head.Layout.TheVariants.{First, Second}
use Rattle.commit_list.specs.declared.head.Head.{Head}
use Rattle.commit_list.specs.Layout.{magic, spell_given, spell_numbers, spell_head, given_length, head_length, SaysGiven, FitsHead}

-- ---- the parts of a head

pub numbers-parts : (h : Head) (rest : List ℕ) → spell_numbers h ++ rest
    ≡ h.dims ∷ (to_be_bytes w16 h.leaf_size
    ++ (to_be_bytes w32 h.next ++ (spell_given h.layout h.points_given ++ (to_be_bytes w64 h.next_segment ++ (to_be_bytes w16 h.count ++ rest)))))
unfolding spell_numbers
numbers-parts h rest = simp append_assoc

pub head-parts : (h : Head) (rest : List ℕ) → spell_head h ++ rest ≡ magic h.layout ++ (spell_numbers h ++ rest)
unfolding spell_head
head-parts h rest = append_assoc (magic h.layout) (spell_numbers h) rest

given-length : (l : Layout) (points_given : ℕ) (rest : List ℕ) → length (spell_given l points_given ++ rest) ≡ given_length l + length rest
unfolding spell_given given_length
given-length First points_given rest = omega arith
given-length Second points_given rest = omega arith

magic-length : (l : Layout) (rest : List ℕ) → length (magic l ++ rest) ≡ 8 + length rest
unfolding magic
magic-length First rest = omega arith
magic-length Second rest = omega arith

pub numbers-length : (h : Head) (rest : List ℕ) → length (spell_numbers h ++ rest) ≡ 17 + given_length h.layout + length rest
numbers-length h rest =
    omega (arith, ap length (numbers-parts h rest), given-length h.layout h.points_given (to_be_bytes w64 h.next_segment ++ (to_be_bytes w16 h.count ++ rest)))

pub head-length : (h : Head) (rest : List ℕ) → length (spell_head h ++ rest) ≡ head_length h.layout + length rest
head-length h rest =
    omega (arith, ap length (head-parts h rest), magic-length h.layout (spell_numbers h ++ rest), numbers-length h rest)

-- ---- no bytes begin with two heads

pub magic_unique : (l m : Layout) (x y : List ℕ) → magic l ++ x ≡ magic m ++ y → (l ≡ m) × (x ≡ y)
unfolding magic
magic_unique First First x y e = (refl, append_cancel_left (codes "BKDPCOM1") x y e)
magic_unique Second Second x y e = (refl, append_cancel_left (codes "BKDPCOM2") x y e)
magic_unique First Second x y e = absurd (let last : 49 ≡ 50 = ap (λ (bytes : List ℕ). get_or bytes 7 0) e in omega (arith, last))
magic_unique Second First x y e = absurd (let last : 50 ≡ 49 = ap (λ (bytes : List ℕ). get_or bytes 7 0) e in omega (arith, last))

given_unique : (l : Layout) (next a b : ℕ) (x y : List ℕ) → SaysGiven l next a → SaysGiven l next b → a < 2 ^ 32 → b < 2 ^ 32
    → spell_given l a ++ x ≡ spell_given l b ++ y → (a ≡ b) × (x ≡ y)
unfolding spell_given
given_unique First next a b x y p q ha hb e = (p ∙ sym q, e)
given_unique Second next a b x y p q ha hb e = spelling_unique w32 a b x y ha hb e

first_byte : (a b : ℕ) (x y : List ℕ) → a ∷ x ≡ b ∷ y → (a ≡ b) × (x ≡ y)
first_byte a b x y e = (cc, cc)

numbers_unique : (g h : Head) (x y : List ℕ) → FitsHead g → FitsHead h → g.layout ≡ h.layout → spell_numbers g ++ x ≡ spell_numbers h ++ y → (g ≡ h) × (x ≡ y)
numbers_unique g h x y p q l e =
    let dims = first_byte g.dims h.dims _ _ (sym (numbers-parts g x) ∙ e ∙ numbers-parts h y) in
    let leaf_size = spelling_unique w16 g.leaf_size h.leaf_size _ _ p.leaf_size q.leaf_size dims.1 in
    let next = spelling_unique w32 g.next h.next _ _ p.next q.next leaf_size.1 in
    let says : SaysGiven h.layout h.next g.points_given =
    subst (λ (k : ℕ). SaysGiven h.layout k g.points_given) next.0 (subst (λ (k : Layout). SaysGiven k g.next g.points_given) l p.says_given) in
    let same : spell_given h.layout g.points_given ++ (to_be_bytes w64 g.next_segment ++ (to_be_bytes w16 g.count ++ x))
    ≡ spell_given h.layout h.points_given ++ (to_be_bytes w64 h.next_segment ++ (to_be_bytes w16 h.count ++ y)) =
    ap (λ (k : Layout). spell_given k g.points_given ++ (to_be_bytes w64 g.next_segment ++ (to_be_bytes w16 g.count ++ x))) (sym l) ∙ next.1 in
    let points_given = given_unique h.layout h.next g.points_given h.points_given _ _ says q.says_given p.points_given q.points_given same in
    let segment = spelling_unique w64 g.next_segment h.next_segment _ _ p.next_segment q.next_segment points_given.1 in
    let count = spelling_unique w16 g.count h.count x y p.count q.count segment.1 in (
      λ i. record {
        layout = l i;
        dims = dims.0 i;
        leaf_size = leaf_size.0 i;
        next = next.0 i;
        points_given = points_given.0 i;
        next_segment = segment.0 i;
        count = count.0 i;
      },
      count.1,
    )

pub heads_unique : (g h : Head) (x y : List ℕ) → FitsHead g → FitsHead h → spell_head g ++ x ≡ spell_head h ++ y → (g ≡ h) × (x ≡ y)
heads_unique g h x y p q e =
    let begin = magic_unique g.layout h.layout (spell_numbers g ++ x) (spell_numbers h ++ y) (sym (head-parts g x) ∙ e ∙ head-parts h y) in
    numbers_unique g h x y p q begin.0 begin.1
