-- A file of live bits has one set.
use Rattle.std.proofs.Common.{◌≡◌, ◌+◌, ◌-◌, ◌*◌, ◌/◌, ℕ, List, [], ◌++◌, length, replicate, sym, ap, subst, ◌∙◌, arith, append_assoc, length-append}
use Rattle.std.specs.Int.{w32, to_be_bytes}
use Rattle.std.proofs.lemmas.List.{append_cancel_left}
use Rattle.byte_cursor.proofs.Numbers.{spelling_unique}
use Rattle.live_bits.specs.LiveSet.{LiveSet}
use Rattle.live_bits.specs.LiveBody.{head, IsLiveBody}
use Rattle.live_bits.proofs.Heads.{name, sizes, head-parts, head-length}
use Rattle.live_bits.proofs.Bodies.{one_set}
use Rattle.page_cache.specs.FilePages.{payloads_of}
use Rattle.page_cache.specs.Bodies.{pages_for, padded_body}
use Rattle.segment_file.specs.LiveFiles.{IsLiveFile}
use Rattle.segment_file.proofs.Lists.{bodies_equal}

-- the body's length is that of its span
pub body_length : (segment generation : ℕ) (s : LiveSet) (body : List ℕ) → IsLiveBody segment generation s body → length body ≡ 36 + (s.span + 7) / 8
body_length segment generation s body h =
    let len = h.are_bits.len in
    let front = head-length segment generation s.base s.span (length s.live) in
    ap (λ (x : List ℕ). length x) h.spelling ∙ length-append (head segment generation s.base s.span (length s.live)) h.bits ∙ omega (arith, len, front)

-- the span of two bodies that begin alike
same_span : (segment generation : ℕ) (s t : LiveSet) (a b x y : List ℕ) → IsLiveBody segment generation s a → IsLiveBody segment generation t b
    → a ++ x ≡ b ++ y → s.span ≡ t.span
same_span segment generation s t a b x y p q e =
    let front : (r : LiveSet) (bits z : List ℕ)
    → (head segment generation r.base r.span (length r.live) ++ bits) ++ z ≡ name segment generation ++ (sizes r.base r.span (length r.live) ++ (bits ++ z)) =
    λ r bits z.
    append_assoc (head segment generation r.base r.span (length r.live)) bits z ∙ head-parts segment generation r.base r.span (length r.live) (bits ++ z) in
    let whole : name segment generation ++ (sizes s.base s.span (length s.live) ++ (p.bits ++ x))
    ≡ name segment generation ++ (sizes t.base t.span (length t.live) ++ (q.bits ++ y)) =
    sym (front s p.bits x) ∙ ap (λ (l : List ℕ). l ++ x) (sym p.spelling) ∙ e ∙ ap (λ (l : List ℕ). l ++ y) q.spelling ∙ front t q.bits y in
    let numbers = append_cancel_left (name segment generation) (sizes s.base s.span (length s.live) ++ (p.bits ++ x))
    (sizes t.base t.span (length t.live) ++ (q.bits ++ y)) whole in
    let lp = p.are_bits.limit in
    let lq = q.are_bits.limit in
    let first = spelling_unique w32 s.base t.base (to_be_bytes w32 s.span ++ (to_be_bytes w32 (length s.live) ++ (p.bits ++ x)))
    (to_be_bytes w32 t.span ++ (to_be_bytes w32 (length t.live) ++ (q.bits ++ y))) (omega arith) (omega arith) numbers in
    let second = spelling_unique w32 s.span t.span (to_be_bytes w32 (length s.live) ++ (p.bits ++ x)) (to_be_bytes w32 (length t.live) ++ (q.bits ++ y))
    (omega arith) (omega arith) first.1 in
    second.0

-- two bodies with the same pages are the same
pub same_body : (segment generation : ℕ) (s t : LiveSet) (a b x y : List ℕ) → IsLiveBody segment generation s a → IsLiveBody segment generation t b
    → padded_body a ++ x ≡ padded_body b ++ y → length a ≡ length b
same_body segment generation s t a b x y p q e =
    let span = same_span segment generation s t a b (replicate (4064 * pages_for (length a) - length a) 0 ++ x)
    (replicate (4064 * pages_for (length b) - length b) 0 ++ y) p q
    (sym (append_assoc a (replicate (4064 * pages_for (length a) - length a) 0) x) ∙ e
    ∙ append_assoc b (replicate (4064 * pages_for (length b) - length b) 0) y) in
    body_length segment generation s a p ∙ ap (λ (n : ℕ). 36 + (n + 7) / 8) span ∙ sym (body_length segment generation t b q)

pub one_live_set : (segment generation : ℕ) (bytes : List ℕ) (s t : LiveSet) → IsLiveFile segment generation bytes s → IsLiveFile segment generation bytes t
    → s ≡ t
unfolding IsLiveFile
one_live_set segment generation bytes s t p q =
    let lp = p.file.len in
    let lq = q.file.len in
    let pages : pages_for (length p.body) ≡ pages_for (length q.body) = omega arith in
    let payloads : padded_body p.body ≡ padded_body q.body = sym p.file.payload ∙ ap (λ (n : ℕ). payloads_of bytes 0 n) pages ∙ q.file.payload in
    let long = same_body segment generation s t p.body q.body [] [] p.set q.set (ap (λ (l : List ℕ). l ++ []) payloads) in
    let body = bodies_equal p.body q.body long payloads in
    one_set segment generation s t q.body (subst (λ (l : List ℕ). IsLiveBody segment generation s l) body p.set) q.set
