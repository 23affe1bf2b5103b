-- What shows that no state is stored is no damage where an index is held.
use Rattle.std.proofs.Common.{refl, Some}
use Rattle.outer_io.specs.Files.{Files}
use Rattle.documents.specs.Documents.{Document}
use Rattle.std.proofs.Common.{List}
use Rattle.page_cache.specs.declared.faults.PageFault.{PageFault}
use Rattle.page_cache.specs.Evidence.{FaultShows}
use Rattle.page_cache.proofs.Damages.{fault_weaker}
use Rattle.commit_list.specs.Commits.{CommitData}
use Rattle.segment_file.specs.Heads.{HasRanges}
use Rattle.stored_index.specs.Stored.{HoldsIndex, IsUndefined, index_of}
use Rattle.index_opening.specs.Evidence.{IsEvident, ShowsItself}

pub held_whole : (files : Files) (c : CommitData) (docs : List Document) (fault : PageFault) → HoldsIndex files c docs
    → FaultShows (λ _. IsUndefined files) fault → FaultShows (λ _. ⊥) fault
held_whole files c docs fault h = fault_weaker fault (λ _. IsUndefined files) (λ _. ⊥)
    (λ d none. none (Some (index_of c docs)) (record { commit = c; holds = h; is = refl }))

-- a damage of a copy is shown by what it carries
pub shows_itself : (told : Type 0) (files : Files) (fault : PageFault) → FaultShows (IsEvident told files) fault → FaultShows (ShowsItself HasRanges) fault
shows_itself told files fault = fault_weaker fault (IsEvident told files) (ShowsItself HasRanges) (λ d h. h.shows)
