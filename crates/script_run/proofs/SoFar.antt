-- Lines in a session: what is so far, and the end.
use Rattle.std.proofs.Common.{◌≡◌, ℕ, ◌+◌, Bool, cond, List, [], ◌∷◌, Some, Result, Ok, Err, refl, sym, ap, ◌∙◌, subst, ◌⊎◌, inl, inr}
use Rattle.outer_io.specs.Files.{Files}
use Rattle.page_cache.specs.declared.faults.PageFault.{PageFault}
use Rattle.page_cache.specs.declared.faults.PageFault.TheVariants as page
use Rattle.page_cache.specs.Evidence.{FaultShows}
use Rattle.index_model.specs.State.{Index, State, at_rest}
use Rattle.stored_index.specs.Stored.{IsStored}
use Rattle.stored_index.specs.Kept.{SameKept}
use Rattle.stored_index.proofs.KeptFiles.{stored_still}
use Rattle.index_core.specs.Sessions.{SessionData}
use Rattle.script_run.specs.LineAnswers.{SendsReply, IsEnd, Line, IsSessionOf}
use Rattle.script_run.specs.Progress.{ScriptPlace, Progress}
use Rattle.script_run.specs.Runs.{EndsLines, Halts}
use Rattle.run_status.specs.Stops.{stop_of}
use Rattle.run_status.specs.declared.stop.Stop.{Stop}
use Rattle.run_status.specs.declared.stop.Stop.TheVariants as stop
use Rattle.script_run.proofs.Going.{start_here, one_more, ends_from, halts_from, halts_here, stops_here, breaks_here, finishes_here}
use Rattle.script_run.specs.Languages.{meaning}
use Rattle.script_run.specs.Script.{stored_by}
use Rattle.script_run.specs.declared.language.Language.{Language}

-- a place where an index is there
abbrev pub place_on : (line refused : ℕ) → Index → (stored : State) → (rest : List (List ℕ)) → (written : List ℕ) → ScriptPlace
place_on line refused i stored rest written = record { line = line; refused = refused; state = Some i; stored = stored; rest = rest; written = written }

-- from a place on the lines so far were done as the script says, and the session stands where they led
pub record Goes (lang : Language) (told : Type 0) (D : ℕ) (from : ScriptPlace) (files : Files) (s : SessionData) (line refused : ℕ) (rest : List (List ℕ))
    (written : List ℕ) : Type 0 where
  pub index : Index
  pub stored : State
  pub stands : IsSessionOf D files s index stored
  pub progress : Progress (meaning lang) told from (place_on line refused index stored rest written)

abbrev pub goes_first : {told : Type 0} (lang : Language)
    → (D : ℕ) (files : Files) (s : SessionData) (i : Index) (stored : State) (line refused : ℕ) (rest : List (List ℕ)) (written : List ℕ)
    → IsSessionOf D files s i stored → Goes lang told D (place_on line refused i stored rest written) files s line refused rest written
goes_first lang D files s i stored line refused rest written h = record {
  index = i;
  stored = stored;
  stands = h;
  progress = start_here (meaning lang) (place_on line refused i stored rest written);
}

abbrev pub line_at : ℕ → Index → State → List ℕ → Line
line_at number i stored bytes = record { number = number; index = i; stored = stored; bytes = bytes }

module _ {told : Type 0} (lang : Language) (D : ℕ) (from : ScriptPlace) (old files : Files) (s t : SessionData) (line refused : ℕ) (ls : List (List ℕ))
    (written new : List ℕ)
    (g : Goes lang told D from old s line refused ls written) where
  -- one more line is done
  abbrev pub goes_on : (bytes : List ℕ) (rest : List (List ℕ)) → ls ≡ bytes ∷ rest → (is_refused : Bool) (count : ℕ) → count ≡ refused + cond is_refused 1 0
      → SendsReply lang told D (line_at line g.index g.stored bytes) files t written new (Ok is_refused)
      → Goes lang told D from files t (line + 1) count rest new
  goes_on bytes rest next is_refused count counted a = record {
    index = a.0.index;
    stored = stored_by (meaning lang) line g.stored (Some g.index) bytes;
    stands = a.0.stands;
    progress = one_more (meaning lang) from (place_on line refused g.index g.stored ls written)
        (place_on (line + 1) count a.0.index (stored_by (meaning lang) line g.stored (Some g.index) bytes) rest new) bytes g.progress next refl a.0.state refl
        (counted ∙ ap (λ n. refused + n) (sym a.0.refused)) a.1;
  }

  line_stops : (bytes : List ℕ) (rest : List (List ℕ)) → (e : Stop) → SendsReply lang told D (line_at line g.index g.stored bytes) files t written new (Err e)
      → EndsLines (meaning lang) told (place_on line refused g.index g.stored (bytes ∷ rest) written) files new (Err e)
  line_stops bytes rest stop.SinkFault a =
      breaks_here (meaning lang) (place_on line refused g.index g.stored (bytes ∷ rest) written) files new bytes rest refl a.1 a.0
  line_stops bytes rest stop.FolderFault a = stops_here (meaning lang) (place_on line refused g.index g.stored (bytes ∷ rest) written) files new a.1 a.0
  line_stops bytes rest stop.Memory a = stops_here (meaning lang) (place_on line refused g.index g.stored (bytes ∷ rest) written) files new a.1 a.0
  line_stops bytes rest (stop.Damaged damage) a = absurd a

  -- the run stops at the next line
  pub stops_at : (bytes : List ℕ) (rest : List (List ℕ)) → ls ≡ bytes ∷ rest → (e : Stop)
      → SendsReply lang told D (line_at line g.index g.stored bytes) files t written new (Err e)
      → EndsLines (meaning lang) told from files new (Err e)
  stops_at bytes rest next e a =
      ends_from (meaning lang) from (place_on line refused g.index g.stored ls written) g.progress files new (Err e)
      (subst (λ xs. EndsLines (meaning lang) told (place_on line refused g.index g.stored xs written) files new (Err e)) (sym next) (line_stops bytes rest e a))

  -- the source fails before another line has come
  pub halts_at : Halts (meaning lang) told from old written
  halts_at = halts_from (meaning lang) from (place_on line refused g.index g.stored ls written) g.progress old written
      (halts_here (meaning lang) (place_on line refused g.index g.stored ls written) old written (λ _. refl) g.stands.keeps)

  -- or memory is wanting for the next line
  pub memory_at : EndsLines (meaning lang) told from old written (Err stop.Memory)
  memory_at = ends_from (meaning lang) from (place_on line refused g.index g.stored ls written) g.progress old written (Err stop.Memory)
      (stops_here (meaning lang) (place_on line refused g.index g.stored ls written) old written (λ _. refl) (inl g.stands.keeps))

-- no line is left, and what they leave ends the run
pub ends_then : {told : Type 0} (lang : Language)
    → (D : ℕ) (from : ScriptPlace) (old : Files) (s : SessionData) (line refused : ℕ) (ls : List (List ℕ)) (written : List ℕ)
    → (g : Goes lang told D from old s line refused ls written) → ls ≡ [] → (after : Files) (result : Result ℕ Stop)
    → EndsLines (meaning lang) told (place_on line refused g.index g.stored [] written) after written result
    → EndsLines (meaning lang) told from after written result
ends_then {told} lang D from old s line refused ls written g none after result h =
    ends_from (meaning lang) from (place_on line refused g.index g.stored ls written) g.progress after written result
    (subst (λ xs. EndsLines (meaning lang) told (place_on line refused g.index g.stored xs written) after written result) (sym none) h)

-- ---- the end

-- what ends a session ends its lines
pub end_lines : (lang : Language) → (told : Type 0) (files : Files) (i : Index) (stored : State) (line refused : ℕ) (written : List ℕ) (result : Result ℕ Stop)
    → IsEnd files i stored refused result
    → EndsLines (meaning lang) told (place_on line refused i stored [] written) files written result
end_lines lang told files i stored line refused written (Ok count) h =
    subst (λ (n : ℕ). EndsLines (meaning lang) told (place_on line refused i stored [] written) files written (Ok n)) (sym h.0)
    (finishes_here {told = told} (meaning lang) (place_on line refused i stored [] written) files written refl (λ _. refl) h.1)
end_lines lang told files i stored line refused written (Err stop.FolderFault) h =
    stops_here {told = told} (meaning lang) (place_on line refused i stored [] written) files written (λ _. refl) h
end_lines lang told files i stored line refused written (Err stop.Memory) h =
    stops_here {told = told} (meaning lang) (place_on line refused i stored [] written) files written (λ _. refl) h
end_lines lang told files i stored line refused written (Err stop.SinkFault) h = absurd h
end_lines lang told files i stored line refused written (Err (stop.Damaged damage)) h = absurd h

kept_or_rested : (old files : Files) (i : Index) (stored : State) → IsStored old stored → SameKept old files ⊎ IsStored files (Some (at_rest i))
    → IsStored files stored ⊎ IsStored files (Some (at_rest i))
kept_or_rested old files i stored keeps (inl same) = inl (stored_still old files stored same keeps)
kept_or_rested old files i stored keeps (inr rested) = inr rested

fault_end : (old files : Files) (i : Index) (stored : State) (refused : ℕ) (fault : PageFault) → FaultShows (λ _. ⊥) fault → IsStored old stored
    → SameKept old files ⊎ IsStored files (Some (at_rest i)) → IsEnd files i stored refused (Err (stop_of fault))
fault_end old files i stored refused page.Failed whole keeps h = kept_or_rested old files i stored keeps h
fault_end old files i stored refused page.Memory whole keeps h = kept_or_rested old files i stored keeps h
fault_end old files i stored refused (page.Damaged damage) whole keeps h = absurd whole

-- the commit at the end was not done
pub stops_end : (old files : Files) (i : Index) (stored : State) (refused : ℕ) (fault : PageFault) → FaultShows (λ _. ⊥) fault → IsStored old stored
    → SameKept old files ⊎ IsStored files (Some (at_rest i)) → (result : Result ℕ Stop) → result ≡ Err (stop_of fault) → IsEnd files i stored refused result
stops_end old files i stored refused fault whole keeps h result is =
    subst (IsEnd files i stored refused) (sym is) (fault_end old files i stored refused fault whole keeps h)
