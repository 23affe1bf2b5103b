-- A commit where nothing was changed since the last one.
use Rattle.std.proofs.Common.{ℕ, Ok, inl, refl}
use Rattle.outer_io.specs.Files.{Files}
use Rattle.stored_index.proofs.KeptFiles.{kept_itself}
use Rattle.index_core.specs.Calls.{IsCommitted, IsDurable}
use Rattle.index_core.specs.Sessions.{IsSound, IsUnchanged, SessionData}
use Rattle.index_core.proofs.Brought.{commit_itself}
use Rattle.index_core.proofs.Closing.{tracked_same}
use Rattle.index_core.proofs.Committing.{unchanged_is_stored, unchanged_says}
use Rattle.index_core.proofs.Lasting.{NoneGoes, lasts_itself}
use Rattle.index_core.proofs.Renewed.{unchanged_lives}

module _ (D : ℕ) (told : Type 0) (files : Files) (s : SessionData) where
  pub unchanged_durable : {T : Type 0} (x : T) → IsUnchanged s → IsSound D s → IsDurable D told files files s s (Ok x)
  unchanged_durable x unchanged sound = record {
    kept = λ t guards. unchanged_says D files s unchanged guards;
    stored = λ t i seen guards. (unchanged_is_stored D files s i unchanged sound guards seen, unchanged.same.empty);
    undone = λ t guards. tt;
    own = λ t guards. inl (kept_itself files);
    lasting = λ t trusts. commit_itself files;
    lasts = λ t faithful. lasts_itself D NoneGoes files s.set;
  }

  pub unchanged_committed : IsUnchanged s → IsSound D s → IsCommitted D told files files s s
  unchanged_committed unchanged sound = record {
    unchanged = unchanged;
    lives = λ t guards last is. unchanged_lives D files s unchanged sound guards last is;
    anew = λ changed. absurd (changed unchanged);
    levels = λ changed none. absurd (changed unchanged);
    few = λ t guards none. inl refl;
    tracked = λ t m. tracked_same files files s.set.names s.set.names m refl refl;
  }
