-- Entries added one after another.
use Rattle.std.proofs.Common.{◌≡◌, ℕ, ◌+◌, ◌<◌, List, [], ◌∷◌, ◌++◌, length, take, get_or, ℤ, sym, ap, subst, ◌∙◌, arith}
use Rattle.std.proofs.lemmas.List.{map-append}
use Rattle.std.proofs.lemmas.List.Sums.{sum_by-cons, sum_by_push}
use Rattle.std.proofs.lemmas.Option.{slice_get-get_or, get_or_from_slice_get}
use Rattle.std.specs.List.{sum_by}
use Rattle.point_codec.specs.Points.{Item, dist2}
use Rattle.point_codec.specs.Seen.{items_of}
use Rattle.point_codec.specs.declared.entries.Entry.{Entry}
use Rattle.point_codec.specs.declared.entries.Near.{Near}
use Rattle.point_codec.proofs.LeastCells.{map-more}
use Rattle.nearest_query.specs.declared.candidates.Candidates.{Candidates}
use Rattle.documents.specs.NearestEntries.{near_of, nears_of}
use Rattle.nearest_query.specs.Best.{AreBest, AreAdded}

pub added_none : (seen : List Near) (c : Candidates) → AreBest seen c → AreAdded seen [] c
added_none seen c best = record { after = seen; best = best; totals = λ f. omega arith }

pub added_more : (seen entries more : List Near) (c d : Candidates) (n : Near) → AreAdded seen entries c
    → ((es : List Near) → AreBest es c → AreBest (n ∷ es) d)
    → more ≡ entries ++ n ∷ [] → AreAdded seen more d
added_more seen entries more c d n was step e = record {
  after = n ∷ was.after;
  best = step was.after was.best;
  totals = λ f.
      let a : sum_by f (n ∷ was.after) ≡ f n + sum_by f was.after = sum_by-cons f n was.after in
      let b : sum_by f more ≡ sum_by f entries + f n = ap (sum_by f) e ∙ sum_by_push f entries n in
      let t = was.totals f in
      omega arith;
}

pub added_same : (seen entries more : List Near) (c : Candidates) → AreAdded seen entries c → more ≡ entries → AreAdded seen more c
added_same seen entries more c was e = subst (λ es. AreAdded seen es c) (sym e) was

-- the entries of a list, and one more
pub entries_more : {D : ℕ} (at : List ℤ) (es : List (Entry D)) (i : ℕ) (e : Entry D) (n : Near) → i < length es → e ≡ get_or es i e
    → n ≡ record { dist2 = dist2 e.point.c at; doc = e.doc }
    → nears_of at (items_of (take (i + 1) es)) ≡ nears_of at (items_of (take i es)) ++ n ∷ []
entries_more at es i e n h is same =
    ap (nears_of at) (map-more (λ x. record { doc = x.doc; at = x.point.c }) es i e h)
    ∙ map-append (near_of at) (items_of (take i es)) _
    ∙ ap (λ x. nears_of at (items_of (take i es)) ++ record { dist2 = dist2 x.point.c at; doc = x.doc } ∷ []) (sym is)
    ∙ ap (λ x. nears_of at (items_of (take i es)) ++ x ∷ []) (sym same)

abbrev pub near_with : ℕ → ℕ → Near
near_with d doc = record { dist2 = d; doc = doc }

pub with_dist : (d e doc : ℕ) → d ≡ e → near_with d doc ≡ near_with e doc
with_dist d e doc h = ap (λ x. near_with x doc) h

pub no_item : Item
no_item = record { doc = 0; at = [] }

pub read_same : (xs : List Item) (i : ℕ) → i < length xs → get_or xs i no_item ≡ get_or xs i (get_or xs i no_item)
read_same xs i h = sym (get_or_from_slice_get xs i (get_or xs i no_item) (get_or xs i no_item) (slice_get-get_or xs i no_item h))

pub near_read : (at : List ℤ) (x : Item) (d doc : ℕ) (p : List ℤ) → d ≡ dist2 p at → p ≡ x.at → doc ≡ x.doc → near_with d doc ≡ near_of at x
near_read at x d doc p e f h = λ i. record { dist2 = (e ∙ ap (λ y. dist2 y at) f) i; doc = h i }
