-- That no document goes that the lines don't take out, one line after the other.
use Rattle.std.proofs.Common.{◌≡◌, ◌∷◌, ◌++◌, [], ℕ, List, Some, None, Ok, sym, subst, inl, inr, ⊎_elim}
use Rattle.std.specs.List.{Contains}
use Rattle.std.proofs.lemmas.List.Elements.{Contains-append_left, Contains-append_right}
use Rattle.outer_io.specs.declared.file_name.FileName.TheVariants.{Commit}
use Rattle.outer_io.specs.Files.{Files, bytes_of}
use Rattle.commit_list.specs.Commits.{CommitData}
use Rattle.commit_list.specs.CommitFiles.{IsCommitFile}
use Rattle.documents.proofs.Lists.{cons_head, nil_none}
use Rattle.script_lang.specs.Requests.{Request}
use Rattle.segment_view.specs.LiveSegments.{LiveSegment}
use Rattle.segment_set.specs.Sets.{SetData}
use Rattle.index_core.specs.Brought.{KeepsOwn}
use Rattle.index_core.specs.KeptLive.{FindsKept, IsKeptWithout, KeepsLive, KeepsSet}
use Rattle.index_core.specs.Lasting.{Lasts, LosesNone, TakesOut}
use Rattle.index_core.specs.Sessions.{SessionData, Trusts}
use Rattle.index_core.proofs.Guarding.{says_some}
use Rattle.index_core.proofs.Lasting.{NoneGoes}
use Rattle.index_core.proofs.LosingNone.{found_keeps, keeps_wider, kept_then, loses_then, own_keeps}
use Rattle.script_run.specs.Languages.{LineRequest, line_request}
use Rattle.script_run.specs.Taking.{IsTakenOut, IsTakenOutOf, TakesOutBy}
use Rattle.script_run.specs.declared.language.Language.{Language}

-- ---- of more numbers

module _ (D : ℕ) (P Q : ℕ → Type 0) (f g : Files) (s : SetData) (wide : (number : ℕ) → P number → Q number) where
  pub kept_wider : KeepsSet D P f g s → KeepsSet D Q f g s
  kept_wider (inl same) = inl same
  kept_wider (inr has) = inr (λ number live. ⊎_elim inl (λ lost. inr (⊎_elim inl (λ goes. inr (wide number goes)) lost)) (has number live))

  pub loses_wider : (t : SetData) → LosesNone D P f g s t → LosesNone D Q f g s t
  loses_wider t h = record {
    lasts = record {
      live = λ number live. ⊎_elim inl (λ lost. inr (⊎_elim inl (λ goes. inr (wide number goes)) lost)) (h.lasts.live number live);
      parts = h.lasts.parts;
    };
    kept = kept_wider h.kept;
  }

-- ---- one line

-- a request that a trusted session did
pub applied_loses : (D : ℕ) (told : Type 0) (r : Request) (f g : Files) (s : SessionData) (t : SetData) → Trusts D f s → KeepsOwn D told f g s.set
    → Lasts D (TakesOut r) f g s.set t → LosesNone D (TakesOut r) f g s.set t
applied_loses D told r f g s t h own lasts = record {
  lasts = lasts;
  kept = kept_wider D NoneGoes (TakesOut r) f g s.set (λ number goes. absurd goes) (own_keeps D told f g s.set h.faithful own);
}

-- the line said it
pub read_loses : (D : ℕ) (said : LineRequest) (r : Request) → said ≡ Ok r → (f g : Files) (s t : SetData) → LosesNone D (TakesOut r) f g s t
    → LosesNone D (TakesOutBy said) f g s t
read_loses D said r is f g s t h =
    loses_wider D (TakesOut r) (TakesOutBy said) f g s (λ number goes. subst (λ (x : LineRequest). TakesOutBy x number) (sym is) goes) t h

-- ---- lines

-- what some of the lines take out all of them do
pub taken_first : (lang : Language) (D : ℕ) (first more : List (List ℕ)) (number : ℕ) → IsTakenOut lang D first number
    → IsTakenOut lang D (first ++ more) number
taken_first lang D first more number h = record { line = h.line; there = Contains-append_left first more h.line h.there; takes = h.takes }

-- what the next one takes out, of which this text was read
taken_next : (lang : Language) (D : ℕ) (first : List (List ℕ)) (line text : List ℕ) (more : List (List ℕ))
    → line_request lang (Some D) line ≡ line_request lang (Some D) text → (number : ℕ) → TakesOutBy (line_request lang (Some D) text) number
    → IsTakenOut lang D (first ++ line ∷ more) number
taken_next lang D first line text more alike number h = record {
  line = line;
  there = Contains-append_right first (line ∷ more) line (cons_head line more);
  takes = subst (λ (x : LineRequest). TakesOutBy x number) (sym alike) h;
}

module _ (lang : Language) (D : ℕ) (first : List (List ℕ)) (f g : Files) (s t : SetData) (so_far : LosesNone D (IsTakenOut lang D first) f g s t) where
  -- what was kept of those so far, with whichever others behind them
  pub lines_kept : (more : List (List ℕ)) → KeepsSet D (IsTakenOut lang D (first ++ more)) f g s
  lines_kept more = kept_wider D (IsTakenOut lang D first) (IsTakenOut lang D (first ++ more)) f g s (taken_first lang D first more) so_far.kept

  -- and after the end
  pub end_kept : (h : Files) → KeepsSet D NoneGoes g h t → (more : List (List ℕ)) → KeepsSet D (IsTakenOut lang D (first ++ more)) f h s
  end_kept h end more = kept_then D (IsTakenOut lang D first) NoneGoes (IsTakenOut lang D (first ++ more)) f g h s t (taken_first lang D first more)
      (λ number goes. absurd goes) so_far.lasts so_far.kept end

  module _ (line text : List ℕ) (alike : line_request lang (Some D) line ≡ line_request lang (Some D) text) (h : Files) (u : SetData)
      (next : LosesNone D (TakesOutBy (line_request lang (Some D) text)) g h t u) where
    -- one more line is done
    pub one_loses : LosesNone D (IsTakenOut lang D (first ++ line ∷ [])) f h s u
    one_loses = loses_then D (IsTakenOut lang D first) (TakesOutBy (line_request lang (Some D) text)) (IsTakenOut lang D (first ++ line ∷ [])) f g h s t u
        (taken_first lang D first (line ∷ [])) (taken_next lang D first line text [] alike) so_far next

    -- or the lines stop at it
    pub line_kept : (more : List (List ℕ)) → KeepsSet D (IsTakenOut lang D (first ++ line ∷ more)) f h s
    line_kept more = kept_then D (IsTakenOut lang D first) (TakesOutBy (line_request lang (Some D) text)) (IsTakenOut lang D (first ++ line ∷ more)) f g h s t
        (taken_first lang D first (line ∷ more)) (taken_next lang D first line text more alike) so_far.lasts so_far.kept next.kept

-- ---- where the index comes from

-- files without an index keep nothing, and a set without a segment has lost nothing
pub bare_finds : (D : ℕ) (files : Files) (s : SetData) → s.parts ≡ [] → files Commit ≡ None → FindsKept D files s
bare_finds D files s bare none = record {
  live = λ number kept. absurd (says_some files kept.commit none kept.says);
  lost = λ number h. nil_none h.part (IsKeptWithout files number) (subst (λ (ps : List LiveSegment). Contains ps h.part) bare h.there);
}

-- lines on an index of so many dimensions, over files that opening it left
pub opened_keeps : (lang : Language) (D dims : ℕ) (lines : List (List ℕ)) (f g h : Files) (s : SetData) → dims ≡ D → g ≡ f → FindsKept D g s
    → KeepsSet D (IsTakenOut lang D lines) g h s → KeepsLive (IsTakenOut lang dims lines) f h
opened_keeps lang D dims lines f g h s is same finds keeps =
    subst (λ (n : ℕ). KeepsLive (IsTakenOut lang n lines) f h) (sym is)
    (subst (λ (x : Files). KeepsLive (IsTakenOut lang D lines) x h) same (found_keeps D (IsTakenOut lang D lines) g h s finds keeps))

-- as the folder's commit reads them
pub commit_keeps : (lang : Language) (c : CommitData) (lines : List (List ℕ)) (f g h : Files) → IsCommitFile (bytes_of (f Commit)) c → g ≡ f
    → KeepsLive (IsTakenOut lang c.dims lines) g h → KeepsLive (IsTakenOutOf lang f lines) f h
commit_keeps lang c lines f g h says same keeps =
    keeps_wider (IsTakenOut lang c.dims lines) (IsTakenOutOf lang f lines) f h (λ number taken. record { commit = c; says = says; taken = taken })
    (subst (λ (x : Files). KeepsLive (IsTakenOut lang c.dims lines) x h) same keeps)
