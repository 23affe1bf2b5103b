-- A script of ranges, whose questions are boxes of points, answers and leaves what it does by the points of ranges.
use Rattle.std.proofs.Common.{◌≡◌, ◌/◌, ◌%◌, ◌==◌, ◌||◌, ◌+◌, ℕ, Bool, true, false, cond, if◌then◌else◌, List, [], ◌∷◌, ◌++◌}
use Rattle.std.proofs.Common.{length, map, filter, Option, Some, None, Ok, Err, arith, refl, sym, ap, subst, ◌∙◌, ◌⊎◌, inl, inr, ℤ}
use Rattle.std.specs.Prelude.{All}
use Rattle.std.specs.List.{list_any}
use Rattle.std.proofs.lemmas.Bool.Decides.{nat_tests}
use Rattle.std.proofs.lemmas.List.Elements.{All-head, All-tail}
use Rattle.outer_io.specs.Files.{Files}
use Rattle.outer_io.specs.Parts.{WritesPart}
use Rattle.point_codec.specs.Points.{Region, in_box}
use Rattle.documents.specs.Documents.{Document, hits, passes}
use Rattle.script_lang.specs.Reading.{Reading, Says, read}
use Rattle.script_lang.specs.Replies.{hits_text}
use Rattle.script_lang.specs.Requests.{Viewed}
use Rattle.script_lang.specs.Requests as asks
use Rattle.range_docs.specs.Ranges.{AreEnds, Decides, IsQuery, box_for, range_of}
use Rattle.range_docs.specs.Reading.{Asks, Finds, RangeReading, if_blank, range_read, read_range_text}
use Rattle.range_docs.specs.Seen.{request_in}
use Rattle.range_docs.specs.declared.ranges.Question.{Question}
use Rattle.range_docs.proofs.Boxes.{box_answers}
use Rattle.range_docs.proofs.Sound.{names_ranges}
use Rattle.index_model.specs.State.{Index, State, viewed_docs}
use Rattle.index_model.specs.Step.{query_outcome, step_on}
use Rattle.index_model.specs.Script.{Answer, answer_to}
use Rattle.stored_index.specs.Stored.{IsStored}
use Rattle.run_status.specs.declared.status.Status.{Status}
use Rattle.run_status.specs.declared.status.Status.TheVariants as status
use Rattle.script_run.specs.Languages.{answer, answer_of, meaning, read_in}
use Rattle.script_run.specs.Progress.{ScriptPlace, start}
use Rattle.script_run.specs.RangeScript.{AreRanges, EndsRanges, Test, range_answer, range_answer_of, range_script}
use Rattle.script_run.specs.Runs.{Breaks, Ends, Finishes, InFlight, Stops}
use Rattle.script_run.specs.Script.{Meaning, final, refused_in, state_after, stored_after, stored_by, text_of}
use Rattle.script_run.specs.declared.language.Language.TheVariants.{Ranges}
use Rattle.script_run.proofs.RangeStates.{final_keeps, line_keeps, viewed_ranges}

-- ---- what is found

same_bit : (a b : Bool) → (a ≡ true → b ≡ true) → (b ≡ true → a ≡ true) → a ≡ b
same_bit true b to from = sym (to refl)
same_bit false true to from = from refl
same_bit false false to from = refl

module _ (f g : List ℤ → Bool) where
  any_same : (P : List ℤ → Type 0) → ((p : List ℤ) → P p → f p ≡ g p) → (ps : List (List ℤ)) → All P ps → list_any f ps ≡ list_any g ps
  any_same P same [] all = refl
  any_same P same (p ∷ ps) all = (λ i. same p (All-head P p ps all) i || any_same P same ps (All-tail P p ps all) i)

  -- tests that agree on the points of documents find the same ones
  hits_same : (P : List ℤ → Type 0) → ((p : List ℤ) → P p → f p ≡ g p) → (docs : List Document) → All (λ (d : Document). All P d.points) docs
      → hits f docs ≡ hits g docs
  hits_same P same [] all = refl
  hits_same P same (d ∷ ds) all =
      let rest = hits_same P same ds (All-tail (λ (e : Document). All P e.points) d ds all) in
      let first = any_same P same d.points (All-head (λ (e : Document). All P e.points) d ds all) in
      by (passes f d) (passes g d) first rest
    where
      by : (a b : Bool) → a ≡ b → map (λ (e : Document). e.number) (filter (passes f) ds) ≡ map (λ (e : Document). e.number) (filter (passes g) ds)
          → map (λ (e : Document). e.number) (cond a (d ∷ filter (passes f) ds) (filter (passes f) ds))
          ≡ map (λ (e : Document). e.number) (cond b (d ∷ filter (passes g) ds) (filter (passes g) ds))
      by true true e rest = ap (λ ns. d.number ∷ ns) rest
      by false false e rest = rest
      by true false e rest = absurd cc
      by false true e rest = absurd cc

module _ (test : Test) (decides : Decides test) where
  -- in the box are just the ranges that pass
  box_tests : (question : Question) (r : ℕ) (query : Region) → IsQuery r query → (p : List ℤ) → AreEnds r p
      → in_box (box_for question query) p ≡ test question (range_of r p) query
  box_tests question r query request_in p ends =
      let boxed = box_answers question r query request_in.lo request_in.hi request_in.ordered p ends in
      let tested = decides question r p query ends request_in in
      same_bit _ _ (λ e. tested.1 (boxed.0 e)) (λ e. boxed.1 (tested.0 e))

  found_same : (line : ℕ) (i : Index) (question : Question) (view : Viewed) (query : Region) → IsQuery (i.dims / 2) query → i.dims % 2 ≡ 0 → AreRanges (Some i)
      → answer_to line (Some i) (step_on i (asks.InBox view (box_for question query).lo (box_for question query).hi))
      ≡ answer_to line (Some i) (query_outcome i (viewed_docs view i) (λ docs. hits_text (hits (λ p. test question (range_of (i.dims / 2) p) query) docs)))
  unfolding step_on
  found_same line i question view query request_in even h = by (viewed_docs view i) refl
    where
      by : (o : Option (List Document)) → viewed_docs view i ≡ o
          → answer_to line (Some i)
          (query_outcome i o (λ docs. hits_text (hits (in_box (record { lo = (box_for question query).lo; hi = (box_for question query).hi })) docs)))
          ≡ answer_to line (Some i) (query_outcome i o (λ docs. hits_text (hits (λ p. test question (range_of (i.dims / 2) p) query) docs)))
      by None is = refl
      by (Some docs) is = ap (λ ns. answer_to line (Some i) (query_outcome i (Some docs) (λ _. hits_text ns)))
          (hits_same (in_box (box_for question query)) (λ p. test question (range_of (i.dims / 2) p) query) (AreEnds (i.dims / 2))
          (box_tests question (i.dims / 2) query request_in) docs (viewed_ranges view i docs even h is))

  no_find : (reading : Reading) (question : Question) (view : Viewed) (query : Region) → if_blank reading ≡ Ok (Finds question view query) → ⊥
  no_find (Says asks.Blank) question view query e = cc
  no_find reading question view query e = cc

  -- only where points are ranges are ranges looked for
  finds_even : (dims : ℕ) (bytes : List ℕ) (question : Question) (view : Viewed) (query : Region)
      → range_read (Some dims) bytes ≡ Ok (Finds question view query) → dims % 2 ≡ 0
  unfolding range_read
  finds_even dims bytes question view query e = by (dims % 2 == 0) refl e
    where
      by : (b : Bool) → (dims % 2 == 0) ≡ b → cond b (read_range_text (Some dims) bytes) (if_blank (read None bytes)) ≡ Ok (Finds question view query)
          → dims % 2 ≡ 0
      by true t same = grind (arith, nat_tests)
      by false t same = absurd (no_find (read None bytes) question view query same)

  -- a line is answered as by the points of ranges
  pub line_same : (line : ℕ) (state : State) (bytes : List ℕ) → AreRanges state → answer Ranges line state bytes ≡ range_answer test line state bytes
  unfolding answer read_in range_answer
  line_same line None bytes h = by (range_read None bytes)
    where
      by : (reading : RangeReading) → answer_of line None (request_in reading) ≡ range_answer_of test line None reading
      by (Ok (Asks r)) = refl
      by (Ok (Finds question view query)) = refl
      by (Err f) = refl
  line_same line (Some i) bytes h = by (range_read (Some i.dims) bytes) refl
    where
      by : (reading : RangeReading) → range_read (Some i.dims) bytes ≡ reading
          → answer_of line (Some i) (request_in reading) ≡ range_answer_of test line (Some i) reading
      by (Ok (Asks r)) is = refl
      by (Ok (Finds question view query)) is =
          found_same line i question view query (names_ranges i.dims bytes (Finds question view query) is) (finds_even i.dims bytes question view query is) h
      by (Err f) is = refl

-- ---- lines that mean the same

-- two meanings of which one is known where P holds, and keeps that
module _ (A B : Meaning) (P : State → Type 0) (same : (line : ℕ) (s : State) (l : List ℕ) → P s → A.answer line s l ≡ B.answer line s l)
    (commit : (s : State) (l : List ℕ) → A.commits s l ≡ B.commits s l) (keeps : (line : ℕ) (s : State) (l : List ℕ) → P s → P (A.answer line s l).state)
    (rests : (s : State) → P s → P (final s)) where
  state_keeps : (line : ℕ) (s : State) (ls : List (List ℕ)) → P s → P (state_after A line s ls)
  state_keeps line s [] h = h
  state_keeps line s (l ∷ ls) h = state_keeps (line + 1) (A.answer line s l).state ls (keeps line s l h)

  state_same : (line : ℕ) (s : State) (ls : List (List ℕ)) → P s → state_after A line s ls ≡ state_after B line s ls
  state_same line s [] h = refl
  state_same line s (l ∷ ls) h =
      state_same (line + 1) (A.answer line s l).state ls (keeps line s l h) ∙ ap (λ a. state_after B (line + 1) a.state ls) (same line s l h)

  text_same : (line : ℕ) (s : State) (ls : List (List ℕ)) → P s → text_of A line s ls ≡ text_of B line s ls
  text_same line s [] h = refl
  text_same line s (l ∷ ls) h =
      ap (λ t. (A.answer line s l).text ++ t) (text_same (line + 1) (A.answer line s l).state ls (keeps line s l h))
      ∙ ap (λ a. a.text ++ text_of B (line + 1) a.state ls) (same line s l h)

  refused_same : (line : ℕ) (s : State) (ls : List (List ℕ)) → P s → refused_in A line s ls ≡ refused_in B line s ls
  refused_same line s [] h = refl
  refused_same line s (l ∷ ls) h =
      ap (λ n. (A.answer line s l).refused + n) (refused_same (line + 1) (A.answer line s l).state ls (keeps line s l h))
      ∙ ap (λ a. a.refused + refused_in B (line + 1) a.state ls) (same line s l h)

  by_same : (line : ℕ) (stored s : State) (l : List ℕ) → P s → stored_by A line stored s l ≡ stored_by B line stored s l
  by_same line stored s l h = (λ i. if commit s l i then final (same line s l h i).state else stored)

  by_keeps : (line : ℕ) (stored s : State) (l : List ℕ) → P stored → P s → P (stored_by A line stored s l)
  by_keeps line stored s l k h = by (A.commits s l)
    where
      by : (b : Bool) → P (if b then final (A.answer line s l).state else stored)
      by true = rests (A.answer line s l).state (keeps line s l h)
      by false = k

  stored_same : (line : ℕ) (stored s : State) (ls : List (List ℕ)) → P s → stored_after A line stored s ls ≡ stored_after B line stored s ls
  stored_same line stored s [] h = refl
  stored_same line stored s (l ∷ ls) h =
      stored_same (line + 1) (stored_by A line stored s l) (A.answer line s l).state ls (keeps line s l h)
      ∙ (λ i. stored_after B (line + 1) (by_same line stored s l h i) (same line s l h i).state ls)

  stored_keeps : (line : ℕ) (stored s : State) (ls : List (List ℕ)) → P stored → P s → P (stored_after A line stored s ls)
  stored_keeps line stored s [] k h = k
  stored_keeps line stored s (l ∷ ls) k h =
      stored_keeps (line + 1) (stored_by A line stored s l) (A.answer line s l).state ls (by_keeps line stored s l k h) (keeps line s l h)

  flight_same : (files : Files) (line : ℕ) (s : State) (rest : List (List ℕ)) → P s → InFlight A files line s rest → InFlight B files line s rest
  flight_same files line s [] h f = f
  flight_same files line s (l ∷ ls) h f = (sym (commit s l) ∙ f.0, subst (λ (a : Answer). IsStored files (final a.state)) (same line s l h) f.1)

  flight_keeps : (files : Files) (line : ℕ) (s : State) (rest : List (List ℕ)) → P s → InFlight A files line s rest
      → (after : State) × IsStored files after × P after
  flight_keeps files line s [] h f = (final s, f, rests s h)
  flight_keeps files line s (l ∷ ls) h f = (final (A.answer line s l).state, f.1, rests (A.answer line s l).state (keeps line s l h))

  module _ (told : Type 0) (p : ScriptPlace) (files : Files) (new : List ℕ) (state : P p.state) (stored : P p.stored) where
    finishes_same : Finishes A told p files new → Finishes B told p files new
    finishes_same f = record {
      text = λ t. f.text t ∙ ap (λ w. p.written ++ w) (text_same p.line p.state p.rest state);
      stored = subst (λ s. IsStored files (final s)) (state_same p.line p.state p.rest state) f.stored;
    }

    stops_same : Stops A told p files new → Stops B told p files new
    stops_same f = record {
      done = f.done;
      rest = f.rest;
      whole = f.whole;
      text = λ t. f.text t ∙ ap (λ w. p.written ++ w) (text_same p.line p.state f.done state);
      stored = by f.stored;
    }
      where
        by : IsStored files (stored_after A p.line p.stored p.state f.done)
            ⊎ InFlight A files (p.line + length f.done) (state_after A p.line p.state f.done) f.rest
            → IsStored files (stored_after B p.line p.stored p.state f.done)
            ⊎ InFlight B files (p.line + length f.done) (state_after B p.line p.state f.done) f.rest
        by (inl same) = inl (subst (IsStored files) (stored_same p.line p.stored p.state f.done state) same)
        by (inr flight) = inr (subst (λ s. InFlight B files (p.line + length f.done) s f.rest) (state_same p.line p.state f.done state)
            (flight_same files (p.line + length f.done) (state_after A p.line p.state f.done) f.rest (state_keeps p.line p.state f.done state) flight))

    stops_keeps : Stops A told p files new → (after : State) × IsStored files after × P after
    stops_keeps f = by f.stored
      where
        by : IsStored files (stored_after A p.line p.stored p.state f.done)
            ⊎ InFlight A files (p.line + length f.done) (state_after A p.line p.state f.done) f.rest
            → (after : State) × IsStored files after × P after
        by (inl same) = (stored_after A p.line p.stored p.state f.done, same, stored_keeps p.line p.stored p.state f.done stored state)
        by (inr flight) =
            flight_keeps files (p.line + length f.done) (state_after A p.line p.state f.done) f.rest (state_keeps p.line p.state f.done state) flight

    breaks_same : Breaks A told p files new → Breaks B told p files new
    breaks_same f = record {
      done = f.done;
      at = f.at;
      rest = f.rest;
      whole = f.whole;
      text = λ t. subst (λ (w : List ℕ). WritesPart (p.written ++ w) new (B.answer (p.line + length f.done) (state_after B p.line p.state f.done) f.at).text)
          (text_same p.line p.state f.done state)
          (subst (λ (a : Answer). WritesPart (p.written ++ text_of A p.line p.state f.done) new a.text) at_same (f.text t));
      stored = subst (IsStored files) (stored_same p.line p.stored p.state (f.done ++ f.at ∷ []) state) f.stored;
    }
      where
        at_same : A.answer (p.line + length f.done) (state_after A p.line p.state f.done) f.at
            ≡ B.answer (p.line + length f.done) (state_after B p.line p.state f.done) f.at
        at_same = same (p.line + length f.done) (state_after A p.line p.state f.done) f.at (state_keeps p.line p.state f.done state)
            ∙ ap (λ s. B.answer (p.line + length f.done) s f.at) (state_same p.line p.state f.done state)

    -- lines that end by the one meaning end so by the other
    pub ends_same : (s : Status) → Ends A told p files new s → Ends B told p files new s
    ends_same status.Done h = (finishes_same h.0, ap (λ n. p.refused + n) (sym (refused_same p.line p.state p.rest state)) ∙ h.1)
    ends_same (status.SomeRefused count) h = (finishes_same h.0, h.1, h.2 ∙ ap (λ n. p.refused + n) (refused_same p.line p.state p.rest state))
    ends_same status.FolderFault h = stops_same h
    ends_same status.Memory h = stops_same h
    ends_same status.SinkFault h = breaks_same h
    ends_same (status.Damaged damage) h = h
    ends_same status.Usage h = h
    ends_same status.SourceFault h = h
    ends_same status.TooLarge h = h

    finishes_keeps : Finishes A told p files new → (after : State) × IsStored files after × P after
    finishes_keeps f =
        (final (state_after A p.line p.state p.rest), f.stored, rests (state_after A p.line p.state p.rest) (state_keeps p.line p.state p.rest state))

    -- and what is stored keeps P
    pub ends_keep : (s : Status) → Ends A told p files new s → (after : State) × IsStored files after × P after
    ends_keep status.Done h = finishes_keeps h.0
    ends_keep (status.SomeRefused count) h = finishes_keeps h.0
    ends_keep status.FolderFault h = stops_keeps h
    ends_keep status.Memory h = stops_keeps h
    ends_keep status.SinkFault h =
        (stored_after A p.line p.stored p.state (h.done ++ h.at ∷ []), h.stored, stored_keeps p.line p.stored p.state (h.done ++ h.at ∷ []) stored state)
    ends_keep (status.Damaged damage) h = absurd h
    ends_keep status.Usage h = (p.stored, h.stored, stored)
    ends_keep status.SourceFault h = (p.stored, h.stored, stored)
    ends_keep status.TooLarge h = (p.stored, h.stored, stored)

-- a run over ranges ends as the script that is said by points of ranges
pub ends_ranges : (told : Type 0) (state : State) (lines : List (List ℕ)) (written : List ℕ) (files : Files) (new : List ℕ) (s : Status) → AreRanges state
    → Ends (meaning Ranges) told (start state lines written) files new s → EndsRanges told (start state lines written) files new s
ends_ranges told state lines written files new s h ends = record {
  ends = λ test decides. ends_same (meaning Ranges) (range_script test) AreRanges (line_same test decides) (λ t l. refl) line_keeps final_keeps
      told (start state lines written) files new h h s ends;
  ranges = ends_keep (meaning Ranges) (meaning Ranges) AreRanges (λ line t l k. refl) (λ t l. refl) line_keeps final_keeps
      told (start state lines written) files new h h s ends;
}
