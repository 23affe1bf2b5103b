-- A text that is sent in pieces: how far it went out.
use Rattle.std.proofs.Common.{◌≡◌, ◌++◌, ◌+◌, ◌<◌, ℕ, zero, suc, arith, Bool, false, ◌&&◌, ◌==◌, ◌%◌, Some, drop}
use Rattle.std.proofs.Common.{Result, Ok, Err, IfOk, List, [], ◌∷◌, length, get_or, take, refl, sym, ap, subst, ◌∙◌}
use Rattle.std.specs.Prelude.{OnErr, IsErrOf, codes, decimal, if◌then◌else◌}
use Rattle.std.specs.List.{flat_map, range_with_len}
use Rattle.std.proofs.lemmas.Grind.{flat_map-append}
use Rattle.std.proofs.lemmas.List.{append-nil, append_assoc, map-append, take-append-drop, take_more}
use Rattle.outer_io.specs.Parts.{WritesPart}
use Rattle.point_codec.specs.Seen.{items_of}
use Rattle.point_codec.specs.declared.entries.Entry.{Entry}
use Rattle.leaf_codec.specs.LeafOrder.{item_of}
use Rattle.point_codec.specs.Points.{Item}
use Rattle.run_status.specs.Sent.{IsSent}
use Rattle.run_status.specs.declared.stop.Stop.{Stop}
use Rattle.run_status.specs.declared.stop.Stop.TheVariants as stop
use Rattle.export_points.specs.Ends.{IsCut, IsSentBut, Sends}
use Rattle.documents.specs.Documents.{Document}
use Rattle.documents.specs.Entries.{entries_in}
use Rattle.index_model.specs.State.{Index}
use Rattle.export_points.specs.Exported.{columns_text, export_answer, export_text, header_text, record_text, refusal}

pub whole_sent : (left old mid new text : List ℕ) → new ≡ mid ++ left → IsSentBut left old mid text → new ≡ old ++ text
whole_sent left old mid new text is h =
    is ∙ ap (λ xs. xs ++ left) h.grew ∙ append_assoc old h.sent left ∙ ap (λ xs. old ++ xs) (sym h.whole)

pub part_cut : (left old mid new text more : List ℕ) → WritesPart mid new left → IsSentBut left old mid text → WritesPart old new (text ++ more)
part_cut left old mid new text more w h = record {
  sent = h.sent ++ w.sent;
  rest = w.rest ++ more;
  whole = ap (λ xs. xs ++ more) (h.whole ∙ ap (λ xs. h.sent ++ xs) w.whole ∙ sym (append_assoc h.sent w.sent w.rest))
      ∙ append_assoc (h.sent ++ w.sent) w.rest more;
  grew = w.grew ∙ ap (λ xs. xs ++ w.sent) h.grew ∙ append_assoc old h.sent w.sent;
}

-- more was put behind what was left, and sent so far
pub then_sent : (left now old mid new text more : List ℕ) → IsSentBut left old mid text → IsSentBut now mid new (left ++ more)
    → IsSentBut now old new (text ++ more)
then_sent left now old mid new text more h k = record {
  sent = h.sent ++ k.sent;
  whole = ap (λ xs. xs ++ more) h.whole ∙ append_assoc h.sent left more ∙ ap (λ xs. h.sent ++ xs) k.whole ∙ sym (append_assoc h.sent k.sent now);
  grew = k.grew ∙ ap (λ xs. xs ++ k.sent) h.grew ∙ append_assoc old h.sent k.sent;
}

then_part : (left old mid new text more rest : List ℕ) → IsSentBut left old mid text → WritesPart mid new (left ++ more)
    → WritesPart old new ((text ++ more) ++ rest)
then_part left old mid new text more rest h w = record {
  sent = h.sent ++ w.sent;
  rest = w.rest ++ rest;
  whole = ap (λ xs. xs ++ rest)
      (ap (λ xs. xs ++ more) h.whole ∙ append_assoc h.sent left more ∙ ap (λ xs. h.sent ++ xs) w.whole ∙ sym (append_assoc h.sent w.sent w.rest))
      ∙ append_assoc (h.sent ++ w.sent) w.rest rest;
  grew = w.grew ∙ ap (λ xs. xs ++ w.sent) h.grew ∙ append_assoc old h.sent w.sent;
}

pub then_cut : (told : Type 0) (left old mid new text more rest : List ℕ) (e : Stop) → (told → IsSentBut left old mid text)
    → IsCut told (left ++ more) mid new e → IsCut told ((text ++ more) ++ rest) old new e
then_cut told left old mid new text more rest stop.SinkFault h cut = λ t. then_part left old mid new text more rest (h t) (cut t)
then_cut told left old mid new text more rest stop.Memory h cut = λ t. then_part left old mid new text more rest (h t) (cut t)
then_cut told left old mid new text more rest stop.FolderFault h cut = absurd cut
then_cut told left old mid new text more rest (stop.Damaged d) h cut = absurd cut

-- a piece was sent, or cut
pub send_cut : {T : Type 0} (told : Type 0) (text other old new : List ℕ) (e : Stop) → text ≡ other → (told → IsSent {T = T} text old new (Err e))
    → OnErr {T = T} (Err e) (IsErrOf {T = T} (Err e) stop.SinkFault) → IsCut told other old new e
send_cut told text other old new stop.SinkFault same sent only = λ t. subst (WritesPart old new) same (sent t)
send_cut told text other old new stop.FolderFault same sent only = absurd cc
send_cut told text other old new stop.Memory same sent only = absurd cc
send_cut told text other old new (stop.Damaged d) same sent only = absurd cc

-- ---- the records

abbrev records : {D : ℕ} → List (Entry D) → List ℕ
records es = flat_map record_text (items_of es)

records-append : {D : ℕ} (xs ys : List (Entry D)) → records (xs ++ ys) ≡ records xs ++ records ys
records-append xs ys =
    ap (flat_map record_text) (map-append (λ (e : Entry _). item_of e) xs ys) ∙ flat_map-append record_text (items_of xs) (items_of ys)

pub records_more : {D : ℕ} (front : List ℕ) (es : List (Entry D)) (i : ℕ) (e : Entry D) → i < length es → e ≡ get_or es i e
    → (front ++ flat_map record_text (items_of (take i es))) ++ record_text (item_of e) ≡ front ++ flat_map record_text (items_of (take (i + 1) es))
records_more {D} front es i e lt is =
    append_assoc front (records (take i es)) (record_text (item_of e)) ∙ ap (λ xs. front ++ xs) (sym step)
  where
    step : records (take (i + 1) es) ≡ records (take i es) ++ record_text (item_of e)
    step =
        ap (λ (xs : List (Entry D)). records xs) (take_more es i e lt ∙ ap (λ (x : Entry D). take i es ++ x ∷ []) (sym is))
        ∙ records-append (take i es) (e ∷ [])
        ∙ ap (λ xs. records (take i es) ++ xs) (append-nil (record_text (item_of e)))

pub records_rest : {D : ℕ} (front : List ℕ) (es : List (Entry D)) (i : ℕ)
    → (front ++ flat_map record_text (items_of (take i es))) ++ flat_map record_text (items_of (drop i es)) ≡ front ++ flat_map record_text (items_of es)
records_rest {D} front es i =
    append_assoc front (records (take i es)) (records (drop i es))
    ∙ ap (λ xs. front ++ xs) (sym (records-append (take i es) (drop i es)) ∙ ap (λ (xs : List (Entry D)). records xs) (take-append-drop i es))

-- ---- the columns

last : (a n : ℕ) → range_with_len a (suc n) ≡ range_with_len a n ++ (a + n) ∷ []
last a zero = let same : a ≡ a + 0 = omega arith in ap (λ k. k ∷ []) same
last a (suc n) =
    let same : a + 1 + n ≡ a + suc n = omega arith in
    ap (λ (xs : List ℕ). a ∷ xs) (last (a + 1) n ∙ ap (λ k. range_with_len (a + 1) n ++ k ∷ []) same)

range_more : (a n : ℕ) → range_with_len a (n + 1) ≡ range_with_len a n ++ (a + n) ∷ []
range_more a n = let on : n + 1 ≡ suc n = omega arith in ap (range_with_len a) on ∙ last a n

pub columns_more : (letter : List ℕ) (n : ℕ) → columns_text letter (n + 1) ≡ columns_text letter n ++ (codes "," ++ letter ++ decimal (n + 1))
columns_more letter n =
    let one : 1 + n ≡ n + 1 = omega arith in
    ap (flat_map (λ i. codes "," ++ letter ++ decimal i)) (range_more 1 n ∙ ap (λ k. range_with_len 1 n ++ k ∷ []) one)
    ∙ flat_map-append (λ i. codes "," ++ letter ++ decimal i) (range_with_len 1 n) ((n + 1) ∷ [])
    ∙ ap (λ xs. columns_text letter n ++ xs) (append-nil (codes "," ++ letter ++ decimal (n + 1)))

pub column_said : (front letter : List ℕ) (n : ℕ)
    → (((front ++ columns_text letter n) ++ codes ",") ++ letter) ++ decimal (n + 1) ≡ front ++ columns_text letter (n + 1)
column_said front letter n =
    append_assoc ((front ++ columns_text letter n) ++ codes ",") letter (decimal (n + 1))
    ∙ append_assoc (front ++ columns_text letter n) (codes ",") (letter ++ decimal (n + 1))
    ∙ append_assoc front (columns_text letter n) (codes "," ++ letter ++ decimal (n + 1))
    ∙ ap (λ xs. front ++ xs) (sym (columns_more letter n))

-- ---- one record

-- for want of memory nothing went out
pub none_cut : (told : Type 0) (text old : List ℕ) → IsCut told text old old stop.Memory
none_cut told text old = λ t. record { sent = []; rest = text; whole = refl; grew = sym (append-nil old) }

-- ---- the answer

-- where ranges are asked for and the dimensions are even, or points are
pub whole_answer : (as_ranges : Bool) (D : ℕ) (i : Index) → i.dims ≡ D → (as_ranges && D % 2 == 1) ≡ false
    → export_answer as_ranges (Some i) ≡ record { state = Some i; text = export_text as_ranges D i.docs; refused = 0 }
whole_answer as_ranges D i dims is =
    ap (λ (b : Bool). if b then refusal (Some i) (codes "not ranges") else record { state = Some i; text = export_text as_ranges i.dims i.docs; refused = 0 })
    (ap (λ (d : ℕ). as_ranges && d % 2 == 1) dims ∙ is)
    ∙ ap (λ (d : ℕ). record { state = Some i; text = export_text as_ranges d i.docs; refused = 0 }) dims

-- what is appended to an empty piece, and the records behind it
pub export_is : (as_ranges : Bool) (D : ℕ) (docs : List Document) (empty piece : List ℕ) (xs ys : List Item) → empty ≡ []
    → piece ≡ empty ++ header_text as_ranges D → xs ≡ ys → ys ≡ entries_in docs → piece ++ flat_map record_text xs ≡ export_text as_ranges D docs
export_is as_ranges D docs empty piece xs ys none header same in_turn =
    ap (λ (ts : List ℕ). ts ++ flat_map record_text xs) (header ∙ ap (λ (ts : List ℕ). ts ++ header_text as_ranges D) none)
    ∙ ap (λ (zs : List Item). header_text as_ranges D ++ flat_map record_text zs) (same ∙ in_turn)

-- one refused line that was sent, or cut
pub sent_line : (told : Type 0) (text old new : List ℕ) (r : Result ℕ Stop) → IfOk r (λ n. n ≡ 1) → (told → IsSent text old new r)
    → OnErr r (IsErrOf r stop.SinkFault) → Sends told text 1 old new r
sent_line told text old new (Ok n) known sent only = (sent, known)
sent_line told text old new (Err stop.SinkFault) known sent only = sent
sent_line told text old new (Err stop.FolderFault) known sent only = absurd cc
sent_line told text old new (Err stop.Memory) known sent only = absurd cc
sent_line told text old new (Err (stop.Damaged d)) known sent only = absurd cc

-- the last piece was sent, or cut
pub sent_last : (told : Type 0) (left old mid new text whole : List ℕ) (r : Result ℕ Stop) {sent : List ℕ} → sent ≡ left → text ≡ whole
    → (told → IsSentBut left old mid text) → IfOk r (λ n. n ≡ 0) → (told → IsSent sent mid new r) → OnErr r (IsErrOf r stop.SinkFault)
    → Sends told whole 0 old new r
sent_last told left old mid new text whole (Ok n) same is but known text_sent only = (
  λ t. whole_sent left old mid new text (text_sent t ∙ ap (λ xs. mid ++ xs) same) (but t) ∙ ap (λ xs. old ++ xs) is,
  known,
)
sent_last told left old mid new text whole (Err stop.SinkFault) same is but known text_sent only = λ t.
    subst (WritesPart old new) (append-nil text ∙ is)
    (part_cut left old mid new text [] (subst (WritesPart mid new) same (text_sent t)) (but t))
sent_last told left old mid new text whole (Err stop.FolderFault) same is but known text_sent only = absurd cc
sent_last told left old mid new text whole (Err stop.Memory) same is but known text_sent only = absurd cc
sent_last told left old mid new text whole (Err (stop.Damaged d)) same is but known text_sent only = absurd cc
