-- How the lines of a script are joined to those before them.
use Rattle.std.proofs.Common.{◌≡◌, ℕ, ◌+◌, List, [], ◌∷◌, ◌++◌, length, Result, Ok, Err, refl, sym, ap, ◌∙◌, subst, ◌⊎◌}
use Rattle.std.proofs.Common.{append_assoc, append-nil, add_assoc, zero-add, add-zero, arith, length-append}
use Rattle.outer_io.specs.Files.{Files}
use Rattle.outer_io.specs.Parts.{WritesPart}
use Rattle.page_cache.specs.declared.faults.PageFault.{PageFault}
use Rattle.page_cache.specs.declared.faults.PageFault.TheVariants as page
use Rattle.page_cache.specs.Evidence.{FaultShows}
use Rattle.index_model.specs.State.{State}
use Rattle.stored_index.specs.Stored.{IsStored}
use Rattle.script_run.specs.Progress.{ScriptPlace, Progress}
use Rattle.script_run.specs.Runs.{Finishes, InFlight, Stops, Breaks, Halts, EndsLines, EndsRead}
use Rattle.script_run.specs.declared.halt.Halt.{Halt}
use Rattle.script_run.specs.declared.halt.Halt.TheVariants as halt
use Rattle.run_status.specs.Stops.{stop_of}
use Rattle.run_status.specs.declared.stop.Stop.{Stop}
use Rattle.run_status.specs.declared.stop.Stop.TheVariants as stop
use Rattle.script_run.specs.Script.{Meaning, final, refused_in, state_after, stored_after, stored_by, text_of}
use Rattle.run_status.proofs.Telling.{step_length}

state_append : (m : Meaning) → (line : ℕ) (state : State) (xs ys : List (List ℕ))
    → state_after m line state (xs ++ ys) ≡ state_after m (line + length xs) (state_after m line state xs) ys
state_append m line state [] ys = ap (λ n. state_after m n state ys) (sym (add-zero line))
state_append m line state (x ∷ xs) ys =
    state_append m (line + 1) (m.answer line state x).state xs ys
    ∙ ap (λ n. state_after m n (state_after m (line + 1) (m.answer line state x).state xs) ys) (step_length line xs)

stored_append : (m : Meaning) → (line : ℕ) (stored state : State) (xs ys : List (List ℕ))
    → stored_after m line stored state (xs ++ ys) ≡ stored_after m (line + length xs) (stored_after m line stored state xs) (state_after m line state xs) ys
stored_append m line stored state [] ys = ap (λ n. stored_after m n stored state ys) (sym (add-zero line))
stored_append m line stored state (x ∷ xs) ys =
    stored_append m (line + 1) (stored_by m line stored state x) (m.answer line state x).state xs ys
    ∙ ap (λ n. stored_after m n (stored_after m (line + 1) (stored_by m line stored state x) (m.answer line state x).state xs)
    (state_after m (line + 1) (m.answer line state x).state xs) ys)
    (step_length line xs)

text_append : (m : Meaning) → (line : ℕ) (state : State) (xs ys : List (List ℕ))
    → text_of m line state (xs ++ ys) ≡ text_of m line state xs ++ text_of m (line + length xs) (state_after m line state xs) ys
text_append m line state [] ys = ap (λ n. text_of m n state ys) (sym (add-zero line))
text_append m line state (x ∷ xs) ys =
    ap (λ t. (m.answer line state x).text ++ t)
    (text_append m (line + 1) (m.answer line state x).state xs ys
    ∙ ap (λ n. text_of m (line + 1) (m.answer line state x).state xs ++ text_of m n (state_after m (line + 1) (m.answer line state x).state xs) ys)
    (step_length line xs))
    ∙ sym (append_assoc (m.answer line state x).text (text_of m (line + 1) (m.answer line state x).state xs) _)

refused_append : (m : Meaning) → (line : ℕ) (state : State) (xs ys : List (List ℕ))
    → refused_in m line state (xs ++ ys) ≡ refused_in m line state xs + refused_in m (line + length xs) (state_after m line state xs) ys
refused_append m line state [] ys = ap (λ n. refused_in m n state ys) (sym (add-zero line)) ∙ sym (zero-add _)
refused_append m line state (x ∷ xs) ys =
    ap (λ r. (m.answer line state x).refused + r)
    (refused_append m (line + 1) (m.answer line state x).state xs ys
    ∙ ap (λ n. refused_in m (line + 1) (m.answer line state x).state xs + refused_in m n (state_after m (line + 1) (m.answer line state x).state xs) ys)
    (step_length line xs))
    ∙ sym (add_assoc (m.answer line state x).refused (refused_in m (line + 1) (m.answer line state x).state xs) _)

-- ---- what ends from a later place on ends so from an earlier one on

module _ {told : Type 0} (m : Meaning) (a b : ScriptPlace) (p : Progress m told a b) (xs : List (List ℕ)) where
  -- lines from the later place on are those between and these, from the earlier one on
  line_then : a.line + length (p.done ++ xs) ≡ b.line + length xs
  line_then =
      let long : length (p.done ++ xs) ≡ length p.done + length xs = length-append p.done xs in
      omega (arith, long, p.line)

  state_then : state_after m a.line a.state (p.done ++ xs) ≡ state_after m b.line b.state xs
  state_then = state_append m a.line a.state p.done xs ∙ (λ i. state_after m (sym p.line i) (sym p.state i) xs)

  stored_then : stored_after m a.line a.stored a.state (p.done ++ xs) ≡ stored_after m b.line b.stored b.state xs
  stored_then = stored_append m a.line a.stored a.state p.done xs ∙ (λ i. stored_after m (sym p.line i) (sym p.stored i) (sym p.state i) xs)

  text_then : told → b.written ++ text_of m b.line b.state xs ≡ a.written ++ text_of m a.line a.state (p.done ++ xs)
  text_then t =
      (λ i. p.text t i ++ text_of m (p.line i) (p.state i) xs)
      ∙ append_assoc a.written (text_of m a.line a.state p.done) (text_of m (a.line + length p.done) (state_after m a.line a.state p.done) xs)
      ∙ ap (λ x. a.written ++ x) (sym (text_append m a.line a.state p.done xs))

  refused_then : a.refused + refused_in m a.line a.state (p.done ++ xs) ≡ b.refused + refused_in m b.line b.state xs
  refused_then =
      ap (λ r. a.refused + r)
      (refused_append m a.line a.state p.done xs ∙ (λ i. refused_in m a.line a.state p.done + refused_in m (sym p.line i) (sym p.state i) xs))
      ∙ sym (add_assoc a.refused (refused_in m a.line a.state p.done) (refused_in m b.line b.state xs))
      ∙ ap (λ r. r + refused_in m b.line b.state xs) (sym p.refused)

  whole_then : (ys : List (List ℕ)) → b.rest ≡ xs ++ ys → a.rest ≡ (p.done ++ xs) ++ ys
  whole_then ys whole = p.whole ∙ ap (λ ls. p.done ++ ls) whole ∙ sym (append_assoc p.done xs ys)

module _ {told : Type 0} (m : Meaning) (a b : ScriptPlace) (p : Progress m told a b) (files : Files) (new : List ℕ) where
  finishes_from : Finishes m told b files new → Finishes m told a files new
  finishes_from f = record {
    text = λ t. f.text t ∙ text_then m a b p b.rest t ∙ ap (λ ls. a.written ++ text_of m a.line a.state ls) (sym p.whole);
    stored = subst (λ s. IsStored files (final s)) (sym (ap (state_after m a.line a.state) p.whole ∙ state_then m a b p b.rest)) f.stored;
  }

  refused_from : a.refused + refused_in m a.line a.state a.rest ≡ b.refused + refused_in m b.line b.state b.rest
  refused_from = ap (λ ls. a.refused + refused_in m a.line a.state ls) p.whole ∙ refused_then m a b p b.rest

  stops_from : Stops m told b files new → Stops m told a files new
  stops_from s =
      let one = subst (λ x. IsStored files x ⊎ InFlight m files (b.line + length s.done) (state_after m b.line b.state s.done) s.rest)
      (sym (stored_then m a b p s.done)) s.stored in
      let two = subst
      (λ n. IsStored files (stored_after m a.line a.stored a.state (p.done ++ s.done)) ⊎ InFlight m files n (state_after m b.line b.state s.done) s.rest)
      (sym (line_then m a b p s.done)) one in
      record {
        done = p.done ++ s.done;
        rest = s.rest;
        whole = whole_then m a b p s.done s.rest s.whole;
        text = λ t. s.text t ∙ text_then m a b p s.done t;
        stored = subst
            (λ x. IsStored files (stored_after m a.line a.stored a.state (p.done ++ s.done)) ⊎ InFlight m files (a.line + length (p.done ++ s.done)) x s.rest)
            (sym (state_then m a b p s.done)) two;
      }

  breaks_from : Breaks m told b files new → Breaks m told a files new
  breaks_from s =
      let at : m.answer (b.line + length s.done) (state_after m b.line b.state s.done) s.at
      ≡ m.answer (a.line + length (p.done ++ s.done)) (state_after m a.line a.state (p.done ++ s.done)) s.at
      = (λ i. m.answer (sym (line_then m a b p s.done) i) (sym (state_then m a b p s.done) i) s.at) in
      record {
        done = p.done ++ s.done;
        at = s.at;
        rest = s.rest;
        whole = whole_then m a b p s.done (s.at ∷ s.rest) s.whole;
        text = λ t. subst (λ x. WritesPart (a.written ++ text_of m a.line a.state (p.done ++ s.done)) new x.text) at
            (subst (λ w. WritesPart w new (m.answer (b.line + length s.done) (state_after m b.line b.state s.done) s.at).text) (text_then m a b p s.done t)
            (s.text t));
        stored = subst (IsStored files)
            (sym (ap (stored_after m a.line a.stored a.state) (append_assoc p.done s.done (s.at ∷ [])) ∙ stored_then m a b p (s.done ++ s.at ∷ []))) s.stored;
      }

  pub halts_from : Halts m told b files new → Halts m told a files new
  halts_from s = record {
    done = p.done ++ s.done;
    rest = s.rest;
    whole = whole_then m a b p s.done s.rest s.whole;
    text = λ t. s.text t ∙ text_then m a b p s.done t;
    stored = subst (IsStored files) (sym (stored_then m a b p s.done)) s.stored;
  }

  pub ends_from : (done : Result ℕ Stop) → EndsLines m told b files new done → EndsLines m told a files new done
  ends_from (Ok count) h = (finishes_from h.0, h.1 ∙ sym refused_from)
  ends_from (Err stop.FolderFault) h = stops_from h
  ends_from (Err stop.Memory) h = stops_from h
  ends_from (Err stop.SinkFault) h = breaks_from h
  ends_from (Err (stop.Damaged damage)) h = absurd h

  pub read_from : (done : Result ℕ Halt) → EndsRead m told b files new done → EndsRead m told a files new done
  read_from (Ok count) h = ends_from (Ok count) h
  read_from (Err halt.Source) h = halts_from h
  read_from (Err (halt.Stopped s)) h = ends_from (Err s) h

-- ---- progress

-- no line is done yet
pub start_here : {told : Type 0} (m : Meaning) → (a : ScriptPlace) → Progress m told a a
start_here m a = record {
  done = [];
  whole = refl;
  line = sym (add-zero a.line);
  state = refl;
  stored = refl;
  refused = sym (add-zero a.refused);
  text = λ t. sym (append-nil a.written);
}

-- one more line is done
pub one_more : {told : Type 0} (m : Meaning) → (a b c : ScriptPlace) (line : List ℕ) → Progress m told a b → b.rest ≡ line ∷ c.rest → c.line ≡ b.line + 1
    → (m.answer b.line b.state line).state ≡ c.state → c.stored ≡ stored_by m b.line b.stored b.state line
    → c.refused ≡ b.refused + (m.answer b.line b.state line).refused
    → (told → c.written ≡ b.written ++ (m.answer b.line b.state line).text) → Progress m told a c
one_more m a b c line p next number state stored count text =
    let long : length (p.done ++ line ∷ []) ≡ length p.done + 1 = length-append p.done (line ∷ []) in
    record {
      done = p.done ++ line ∷ [];
      whole = whole_then m a b p (line ∷ []) c.rest next;
      line = omega (arith, number, p.line, long);
      state = sym state ∙ sym (state_then m a b p (line ∷ []));
      stored = stored ∙ sym (stored_then m a b p (line ∷ []));
      refused = count ∙ ap (λ r. b.refused + r) (sym (add-zero (m.answer b.line b.state line).refused)) ∙ sym (refused_then m a b p (line ∷ []));
      text = λ t. text t ∙ ap (λ w. b.written ++ w) (sym (append-nil (m.answer b.line b.state line).text)) ∙ text_then m a b p (line ∷ []) t;
    }

-- ---- how lines end at a place

-- the run stops before any line is done
pub stops_here : {told : Type 0} (m : Meaning) → (b : ScriptPlace) (files : Files) (new : List ℕ) → (told → new ≡ b.written)
    → IsStored files b.stored ⊎ InFlight m files b.line b.state b.rest → Stops m told b files new
stops_here m b files new same stored = record {
  done = [];
  rest = b.rest;
  whole = refl;
  text = λ t. same t ∙ sym (append-nil b.written);
  stored = subst (λ n. IsStored files b.stored ⊎ InFlight m files n b.state b.rest) (sym (add-zero b.line)) stored;
}

-- the source fails before another line has come
pub halts_here : {told : Type 0} (m : Meaning) → (b : ScriptPlace) (files : Files) (new : List ℕ) → (told → new ≡ b.written) → IsStored files b.stored
    → Halts m told b files new
halts_here m b files new same stored = record {
  done = [];
  rest = b.rest;
  whole = refl;
  text = λ t. same t ∙ sym (append-nil b.written);
  stored = stored;
}

-- a fault that is no damage stops it so
pub fault_stops : {told : Type 0} (m : Meaning) → (b : ScriptPlace) (files : Files) (new : List ℕ) (fault : PageFault) → FaultShows (λ _. ⊥) fault
    → (told → new ≡ b.written)
    → IsStored files b.stored ⊎ InFlight m files b.line b.state b.rest → EndsLines m told b files new (Err (stop_of fault))
fault_stops m b files new page.Failed whole same stored = stops_here m b files new same stored
fault_stops m b files new page.Memory whole same stored = stops_here m b files new same stored
fault_stops m b files new (page.Damaged damage) whole same stored = absurd whole

-- the sink fails at the next line
pub breaks_here : {told : Type 0} (m : Meaning) → (b : ScriptPlace) (files : Files) (new : List ℕ) (line : List ℕ) (rest : List (List ℕ)) → b.rest ≡ line ∷ rest
    → (told → WritesPart b.written new (m.answer b.line b.state line).text) → IsStored files (stored_by m b.line b.stored b.state line)
    → Breaks m told b files new
breaks_here m b files new line rest next part stored = record {
  done = [];
  at = line;
  rest = rest;
  whole = next;
  text = λ t. subst (λ n. WritesPart (b.written ++ []) new (m.answer n b.state line).text) (sym (add-zero b.line))
      (subst (λ w. WritesPart w new (m.answer b.line b.state line).text) (sym (append-nil b.written)) (part t));
  stored = stored;
}

-- the run finishes here, since no line is left
pub finishes_here : {told : Type 0} (m : Meaning) → (b : ScriptPlace) (files : Files) (new : List ℕ) → b.rest ≡ [] → (told → new ≡ b.written)
    → IsStored files (final b.state)
    → EndsLines m told b files new (Ok b.refused)
finishes_here m b files new none same stored = (
  record {
    text = λ t. same t ∙ sym (append-nil b.written) ∙ ap (λ ls. b.written ++ text_of m b.line b.state ls) (sym none);
    stored = subst (λ ls. IsStored files (final (state_after m b.line b.state ls))) (sym none) stored;
  },
  sym (add-zero b.refused) ∙ ap (λ ls. b.refused + refused_in m b.line b.state ls) (sym none),
)
