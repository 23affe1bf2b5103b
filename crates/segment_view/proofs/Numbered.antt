-- Entries whose numbers are below 2 ^ 24, as those with live numbers are.
use Rattle.std.proofs.Common.{◌≡◌, ℕ, ◌<◌, ◌^◌, true, List, [], ◌∷◌, ◌++◌, sym, subst}
use Rattle.std.specs.List.{All}
use Rattle.std.proofs.lemmas.List.Elements.{All-append, All-cons, All-head, All-nil, All-tail, All-weaker}
use Rattle.point_codec.specs.Points.{Item}
use Rattle.point_codec.specs.Seen.{items_of}
use Rattle.point_codec.specs.declared.entries.Entry.{Entry}
use Rattle.live_bits.specs.LiveSet.{LiveSet, IsLiveSet, is_live}
use Rattle.segment_view.proofs.Living.{live_below}

-- ---- numbers below 2 ^ 24, of entries and as they are seen

entries_below : {D : ℕ} (es : List (Entry D)) → All (λ (x : Item). x.doc < 2 ^ 24) (items_of es) → All (λ (e : Entry D). e.doc < 2 ^ 24) es
entries_below {D} [] h = All-nil (λ (e : Entry D). e.doc < 2 ^ 24)
entries_below {D} (e ∷ es) h =
    All-cons (λ (x : Entry D). x.doc < 2 ^ 24) e es
    (All-head (λ (x : Item). x.doc < 2 ^ 24) (record { doc = e.doc; at = e.point.c }) (items_of es) h)
    (entries_below es (All-tail (λ (x : Item). x.doc < 2 ^ 24) (record { doc = e.doc; at = e.point.c }) (items_of es) h))

items_below : {D : ℕ} (es : List (Entry D)) → All (λ (e : Entry D). e.doc < 2 ^ 24) es → All (λ (x : Item). x.doc < 2 ^ 24) (items_of es)
items_below {D} [] h = All-nil (λ (x : Item). x.doc < 2 ^ 24)
items_below {D} (e ∷ es) h =
    All-cons (λ (x : Item). x.doc < 2 ^ 24) (record { doc = e.doc; at = e.point.c }) (items_of es)
    (All-head (λ (x : Entry D). x.doc < 2 ^ 24) e es h)
    (items_below es (All-tail (λ (x : Entry D). x.doc < 2 ^ 24) e es h))

-- entries with live numbers behind others
pub numbers_more : {D : ℕ} (s : LiveSet) (old new : List (Entry D)) (more : List Item) → IsLiveSet s → items_of new ≡ items_of old ++ more
    → All (λ (x : Item). is_live s x.doc ≡ true) more → All (λ (e : Entry D). e.doc < 2 ^ 24) old → All (λ (e : Entry D). e.doc < 2 ^ 24) new
numbers_more {D} s old new more set is all below =
    entries_below new
    (subst (All (λ (x : Item). x.doc < 2 ^ 24)) (sym is)
    (All-append (λ (x : Item). x.doc < 2 ^ 24) (items_of old) more (items_below old below)
    (All-weaker (λ (x : Item). is_live s x.doc ≡ true) (λ (x : Item). x.doc < 2 ^ 24) (λ x live. live_below s x.doc set live) more all)))
