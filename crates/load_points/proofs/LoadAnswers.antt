-- What a load answers, by what its calls answered.
use Rattle.std.proofs.Common.{◌≡◌, ◌+◌, ◌++◌, ℕ, Bool, List, length, Result, Ok, Err, refl, sym, ap, subst, ◌∙◌, inl, ℤ}
use Rattle.outer_io.specs.declared.file_name.FileName.TheVariants.{Commit}
use Rattle.outer_io.specs.Files.{Files, bytes_of}
use Rattle.page_cache.specs.declared.faults.PageFault.{PageFault}
use Rattle.page_cache.specs.Causes.{HasPageCause}
use Rattle.page_cache.specs.Evidence.{FaultShows, NotDamaged, OnDamage}
use Rattle.commit_list.specs.Commits.{CommitData}
use Rattle.commit_list.specs.CommitFiles.{IsCommitDamage, IsCommitDamageOf}
use Rattle.commit_list.proofs.CommitPages.{one_file}
use Rattle.index_model.specs.State.{Index, State}
use Rattle.index_model.specs.Script.{Answer}
use Rattle.stored_index.specs.Stored.{IsStored}
use Rattle.index_opening.specs.Evidence.{IsEvident}
use Rattle.index_opening.proofs.Evident.{on_commit_evident, on_evident_files, on_evident_less}
use Rattle.index_core.specs.Sessions.{SessionData}
use Rattle.csv_load.specs.Loading.{points_of, records_of}
use Rattle.csv_load.specs.declared.CsvFault.{CsvFault}
use Rattle.load_points.specs.Loaded.{dims_text, load_answer, loaded_by, loaded_text, columns_answer, refusal}
use Rattle.load_points.specs.Loads.{HasIndexDims, IsLoading, Loads, LoadMoment, StartsFrom, StartsNone}
use Rattle.load_points.proofs.Counted.{loaded_fault, loaded_points, matched_not}
use Rattle.index_core.proofs.Brought.{commit_equal}
use Rattle.index_core.proofs.Lasting.{NoneGoes}
use Rattle.index_core.proofs.LosingNone.{keeps_same}
use Rattle.index_core.proofs.Undone.{fault_kept, kept_equal}
use Rattle.load_points.proofs.Loading.{Starting, loads_fault, loads_as, loads_told}

-- ---- answers

-- what is told where the points are counted
pub told_count : (before after : List ℕ) (count next many : ℕ) → after ≡ before ++ loaded_text count (next + count) → count ≡ many
    → after ≡ before ++ loaded_text many (next + many)
told_count before after count next many grew counted = grew ∙ ap (λ (n : ℕ). before ++ loaded_text n (next + n)) counted

-- a file that is refused for its fault
pub file_refused : (told trusts : Type 0) (Starts : Starting) (files : Files) (faults : ℕ) (before after : List ℕ) (input : List ℕ) (names : List (List ℕ))
    (fault : CsvFault) (r : Result Bool PageFault)
    → ((stored : State) → Starts stored → IsStored files stored) → points_of names (records_of input) ≡ Err fault
    → Loads (Unit {0}) (Unit {0}) (IsStored files) (λ stored. loaded_by names stored (Err fault)) (record { files = files; faults = faults; text = before })
    (record { files = files; faults = faults; text = after }) r
    → Loads told trusts Starts (λ stored. load_answer stored input names) (record { files = files; faults = faults; text = before })
    (record { files = files; faults = faults; text = after }) r
file_refused told trusts Starts files faults before after input names fault r keeps fails loads =
    loads_as told trusts (Unit {0}) Starts (IsStored files) _ _ _ _ r (λ h. tt) keeps (λ stored h. loaded_fault stored input names fault fails)
    (loads_told told (Unit {0}) (IsStored files) _ _ _ r loads)

-- the commit was not read
pub unread_commit : {T : Type 0} (told : Type 0) (answer : State → Answer) (old new : LoadMoment) (fault : PageFault) (r : Result Bool PageFault)
    → r ≡ Err fault
    → (told → new.files ≡ old.files)
    → (told → (stored : State) → IsStored old.files stored → NotDamaged {T = T} (Err fault)) → HasPageCause {T = T} old.faults new.faults (Err fault)
    → (told → OnDamage {T = T} (Err fault) (IsCommitDamageOf old.files)) → OnDamage {T = T} (Err fault) IsCommitDamage
    → Loads told (Unit {0}) (IsStored old.files) answer old new r
unread_commit {T = T} told answer old new fault r is same whole cause damage shown =
    loads_fault {T = T} told (Unit {0}) (IsStored old.files) answer old new fault r is
    (λ t stored h. inl (subst (λ (f : Files). IsStored f stored) (sym (same t)) h)) whole cause
    (on_evident_files {X = T} told (told × Unit {0}) old.files new.files (Err fault) (λ h. h.0) (λ h. same h.0)
    (on_commit_evident {X = T} told old.files (Err fault) damage shown))
    (λ t h. fault_kept old.files new.files (kept_equal old.files new.files (same t)) fault) (λ t h. commit_equal old.files new.files (same t))
    (λ t h. keeps_same NoneGoes old.files new.files (kept_equal old.files new.files (same t)))

-- a damage of files that are the same
pub evident_still : (told trusts : Type 0) (old new : Files) (fault : PageFault) → (told → new ≡ old) → FaultShows (IsEvident (told × trusts) old) fault
    → FaultShows (IsEvident (told × trusts) new) fault
evident_still told trusts old new fault same evident =
    on_evident_files {X = Bool} (told × trusts) (told × trusts) old new (Err fault) (λ h. h) (λ h. same h.0) evident

-- and of files that are trusted whatever they hold
pub evident_all : (told : Type 0) (files : Files) (r : Result Bool PageFault) → OnDamage r (IsEvident (told × Unit {0}) files)
    → OnDamage r (IsEvident told files)
evident_all told files r = on_evident_less (told × Unit {0}) told files r (λ t. (t, tt))

pub none_keeps : (files : Files) (stored : State) → StartsNone files stored → IsStored files stored
none_keeps files stored (none, absent) = subst (IsStored files) (sym none) absent

pub starts_keeps : (old new : Files) (c : CommitData) (stored : State) → new ≡ old → StartsFrom old c stored → IsStored new stored
starts_keeps old new c stored same (says, (i, is, holds)) = subst (λ (f : Files). IsStored f stored) (sym same) (subst (IsStored old) (sym is) holds)

-- the index that is there has the dimensions of the commit
pub has_dims : (D : ℕ) (files : Files) (c : CommitData) (stored : State) → c.dims ≡ D → StartsFrom files c stored → HasIndexDims files D stored
has_dims D files c stored dims (says, (i, is, holds)) = (
  subst (IsStored files) (sym is) holds,
  (
    i,
    is,
    ap (λ (j : Index). j.dims) holds.is ∙ ap (λ (d : CommitData). d.dims) (one_file (bytes_of (files Commit)) holds.commit c holds.holds.commit says) ∙ dims,
  ),
)

-- what is stored is where the files are the same
pub stored_still_there : (old new : Files) (stored : State) → new ≡ old → IsStored old stored → IsStored new stored
stored_still_there old new stored same h = subst (λ (f : Files). IsStored f stored) (sym same) h

-- as many columns as the index that is there hasn't dimensions
pub dims_refused : (files : Files) (dims : ℕ) (stored : State) (input : List ℕ) (names : List (List ℕ)) (points : List (List ℤ)) → (length names ≡ dims → ⊥)
    → points_of names (records_of input) ≡ Ok points → HasIndexDims files dims stored
    → load_answer stored input names ≡ refusal stored (dims_text dims)
dims_refused files dims stored input names points other gives (is_stored, (i, is, has)) =
    loaded_points (length names) stored input names points refl gives
    ∙ ap (λ (o : State). columns_answer (length names) o points) is
    ∙ matched_not (length names) i points (λ e. other (e ∙ has))
    ∙ (λ j. refusal (sym is j) (dims_text (has j)))

-- where the files are the same, a session that loads into the index that is there does so still
pub starts_still : (D : ℕ) (old new : Files) (c : CommitData) (s : SessionData) (stored : State) → new ≡ old → IsLoading D old s stored
    → HasIndexDims old D stored
    → IsLoading D new s stored × HasIndexDims new D stored
starts_still D old new c s stored same loading has = subst (λ (f : Files). IsLoading D f s stored × HasIndexDims f D stored) (sym same) (loading, has)
