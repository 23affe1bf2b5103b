-- The queries of lines, and what replies to them are as texts.
use Rattle.std.specs.Prelude.{ℕ, List, [], ◌∷◌, None, Some}
use Rattle.script_lang.specs.Reading.{Reading, Says, Fails, read}
use Rattle.script_lang.specs.Replies.{found_of, hits_text, near_text}
use Rattle.script_lang.specs.Requests.{Request}
use Rattle.script_lang.specs.Requests as asks
use Rattle.batch_run.specs.declared.queries.Query.{Query}
use Rattle.batch_run.specs.declared.queries.Query.TheVariants as query
use Rattle.batch_run.specs.declared.queries.Reply.{Reply}
use Rattle.batch_run.specs.declared.queries.Reply.TheVariants as reply

-- the request itself where it is a query of the documents live now, and else none
abbrev pub now_of : Request → List Request
now_of (asks.InBox None lo hi) = asks.InBox None lo hi ∷ []
now_of (asks.InPolygon None rings) = asks.InPolygon None rings ∷ []
now_of (asks.Nearest None k at) = asks.Nearest None k at ∷ []
now_of _ = []

abbrev pub query_read : Reading → List Request
query_read (Says request) = now_of request
query_read (Fails fault) = []

-- the query that a line asks, where it asks one
abbrev pub query_in : (D : ℕ) → List ℕ → List Request
query_in D line = query_read (read (Some D) line)

abbrev pub request_of : {D : ℕ} → Query D → Request
request_of (query.InBox lo hi) = asks.InBox None lo.c hi.c
request_of (query.Polygon rings) = asks.InPolygon None rings
request_of (query.Nearest k at) = asks.Nearest None k at.c

abbrev pub text_of_reply : Reply → List ℕ
text_of_reply (reply.Hits docs) = hits_text docs
text_of_reply (reply.Near nears) = near_text (found_of nears)
