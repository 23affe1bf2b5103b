-- The replies to queries are what a script answers to their lines.
use Rattle.std.proofs.Common.{◌≡◌, ℕ, List, [], ◌∷◌, length, map, ap, refl, sym, ◌∙◌}
use Rattle.std.proofs.lemmas.List.{length-map}
use Rattle.documents.specs.Documents.{hits}
use Rattle.script_lang.specs.Replies.{found_of, hits_text, near_text}
use Rattle.script_lang.specs.Requests.{Request}
use Rattle.documents.specs.Nearest.{nearest}
use Rattle.index_model.specs.State.{Index}
use Rattle.index_model.specs.Step.{in_plane_polygon, step_on}
use Rattle.batch_run.specs.Queries.{near_of, reply_of}
use Rattle.batch_run.specs.declared.queries.Query.{Query}
use Rattle.batch_run.specs.declared.queries.Query.TheVariants as query
use Rattle.batch_run.specs.declared.queries.Reply.{Reply}
use Rattle.batch_queries.specs.Queries.{request_of, text_of_reply}
use Rattle.batch_queries.specs.Batched.{reply_text}

-- a number and a distance, from a distance and a number
turned : (found : List (ℕ × ℕ)) → found_of (map near_of found) ≡ map (λ (f : ℕ × ℕ). (f.1, f.0)) found
turned [] = refl
turned (f ∷ found) = ap (λ (fs : List (ℕ × ℕ)). (f.1, f.0) ∷ fs) (turned found)

pub reply_told : (D : ℕ) (i : Index) (q : Query D) → i.dims ≡ D → text_of_reply (reply_of D i.docs q) ≡ reply_text i (request_of q)
unfolding step_on
reply_told D i (query.InBox lo hi) dims = refl
reply_told D i (query.Polygon rings) dims = ap (λ (n : ℕ). hits_text (hits (in_plane_polygon n rings) i.docs)) (sym dims)
reply_told D i (query.Nearest k at) dims = ap near_text (turned (nearest k at.c i.docs))

each_told : (D : ℕ) (i : Index) → i.dims ≡ D → (queries : List (Query D))
    → map text_of_reply (map (reply_of D i.docs) queries) ≡ map (reply_text i) (map request_of queries)
each_told D i dims [] = refl
each_told D i dims (q ∷ qs) = λ k. reply_told D i q dims k ∷ each_told D i dims qs k

-- so it is with a list of them
pub replies_told : (D : ℕ) (i : Index) (queries : List (Query D)) (replies : List Reply) (asked : List Request) → i.dims ≡ D
    → replies ≡ map (reply_of D i.docs) queries → map request_of queries ≡ asked → map text_of_reply replies ≡ map (reply_text i) asked
replies_told D i queries replies asked dims are is =
    ap (λ (rs : List Reply). map text_of_reply rs) are ∙ each_told D i dims queries ∙ ap (λ (qs : List Request). map (reply_text i) qs) is

-- as many as there are of a list are as many as there are of what it is mapped to
pub counted_through : {X Y : Type 0} (f : X → Y) (xs : List X) (ys : List Y) (n : ℕ) → n ≡ length xs → map f xs ≡ ys → n ≡ length ys
counted_through f xs ys n counted is = counted ∙ sym (length-map xs f) ∙ ap length is
