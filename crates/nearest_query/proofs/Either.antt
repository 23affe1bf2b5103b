-- Candidates in the one vector or in the tree.
use Rattle.std.proofs.Common.{◌≡◌, ℕ, ◌≤◌, ◌<◌, ◌-◌, cond, List, [], length, get_or, nat_le, sym, ap, subst, ◌∙◌, ⊎_elim, arith, true, false}
use Rattle.std.proofs.lemmas.Bool.{cases_lt}
use Rattle.std.proofs.lemmas.Bool.Decides.{nat_tests}
use Rattle.std.proofs.lemmas.List.Elements.{All-contains_itself, All-weaker}
use Rattle.std.specs.List.{All, Contains}
use Rattle.point_codec.specs.declared.entries.Near.{Near}
use Rattle.nearest_query.specs.declared.candidates.Candidates.{Candidates}
use Rattle.nearest_query.specs.declared.many.Many.{Many}
use Rattle.documents.specs.NearestEntries.{IsNearest}
use Rattle.nearest_query.specs.Best.{AreBest, AreKept, AreLinked, found_of}
use Rattle.nearest_query.proofs.Among.{up_to_last}
use Rattle.nearest_query.proofs.Offers.{none_nearest}

few_test : (n : ℕ) → n ≤ 64 → nat_le n 64 ≡ true
few_test n le = grind (arith, nat_tests)

many_test : (n : ℕ) → 64 < n → nat_le n 64 ≡ false
many_test n lt = grind (arith, nat_tests)

pub few_is : (c : Candidates) → c.many.room ≤ 64 → found_of c ≡ c.few.items
few_is c le = ap (λ b. cond b c.few.items c.many.in_order.keys) (few_test c.many.room le)

pub many_is : (c : Candidates) → 64 < c.many.room → found_of c ≡ c.many.in_order.keys
many_is c lt = ap (λ b. cond b c.few.items c.many.in_order.keys) (many_test c.many.room lt)

pub none_yet : (c : Candidates) → c.few.items ≡ [] → c.many.in_order.keys ≡ [] → AreKept [] c.many → AreBest [] c
none_yet c e f kept = record {
  some = kept.some;
  linked = kept.linked;
  nearest = none_nearest c.many.room (found_of c) (⊎_elim (λ lt. many_is c lt ∙ f) (λ le. few_is c le ∙ e) (cases_lt 64 c.many.room));
}

pub kept_of : (entries : List Near) (c : Candidates) → 64 < c.many.room → AreBest entries c → AreKept entries c.many
kept_of entries c lt best = record { some = best.some; linked = best.linked; nearest = subst (IsNearest c.many.room entries) (many_is c lt) best.nearest }

pub best_of : (entries : List Near) (c : Candidates) → 64 < c.many.room → AreKept entries c.many → AreBest entries c
best_of entries c lt kept = record { some = kept.some; linked = kept.linked; nearest = subst (IsNearest c.many.room entries) (sym (many_is c lt)) kept.nearest }

pub nearest_few : (entries : List Near) (c : Candidates) → c.many.room ≤ 64 → AreBest entries c → IsNearest c.many.room entries c.few.items
nearest_few entries c le best = subst (IsNearest c.many.room entries) (few_is c le) best.nearest

pub best_few : (entries more : List Near) (old new : Candidates) → old.many.room ≤ 64 → new.many ≡ old.many → AreBest entries old
    → IsNearest old.many.room more new.few.items → AreBest more new
best_few entries more old new le same best is =
    let room : new.many.room ≡ old.many.room = ap (λ (m : Many). m.room) same in
    record {
      some = (let s = best.some in omega (arith, room, s));
      linked = subst AreLinked (sym same) best.linked;
      nearest =
          subst (IsNearest new.many.room more) (sym (few_is new (omega (arith, room, le)))) (subst (λ (k : ℕ). IsNearest k more new.few.items) (sym room) is);
    }

-- all are as near as the last, where they are in order
pub all_nearer : (k d : ℕ) (entries found : List Near) → IsNearest k entries found → 0 < length found
    → ((e : Near) → (get_or found (length found - 1) e).dist2 < d) → All (λ a. a.dist2 < d) found
all_nearer k d entries found was some last = All-weaker (λ a. Contains found a) (λ a. a.dist2 < d) nearer found (All-contains_itself found)
  where
    nearer : (a : Near) → Contains found a → a.dist2 < d
    nearer a h =
        let l = last a in
        ⊎_elim (λ e. let s : a.dist2 ≡ (get_or found (length found - 1) a).dist2 = ap (λ (y : Near). y.dist2) e in omega (arith, l, s))
        (λ b. omega (arith, l, b.near)) (up_to_last found a a was.rises some h)
