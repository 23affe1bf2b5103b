-- What is told of a command that was read, and of a line where no index is there.
use Rattle.std.proofs.Common.{◌≡◌, ◌++◌, ℕ, Bool, cond, List, None, refl, sym, ap, subst, ◌∙◌, ℤ}
use Rattle.outer_io.specs.Files.{Files}
use Rattle.point_codec.specs.Points.{Region, in_box}
use Rattle.cell_relate.specs.Boxes as boxes
use Rattle.ring_parity.specs.Rings.{all_edges}
use Rattle.ring_parity.specs.Edges.{EdgeEnds}
use Rattle.polygon_query.specs.Shape as polygons
use Rattle.index_model.specs.State.{Index}
use Rattle.index_model.specs.Step.{in_plane_polygon}
use Rattle.script_lang.specs.Reading.{Reading, read}
use Rattle.script_lang.specs.Replies.{refused_text}
use Rattle.script_lang.specs.Requests as asks
use Rattle.script_lang.specs.Seen.{request_of}
use Rattle.script_lang.specs.declared.commands.Command.{Command}
use Rattle.script_lang.specs.declared.commands.Command.TheVariants as command
use Rattle.script_lang.specs.declared.faults.Refusal.TheVariants as why
use Rattle.point_codec.specs.declared.names.View.{View}
use Rattle.point_codec.specs.declared.coordinates.Point.{Point}
use Rattle.ring_parity.specs.declared.rings.Rings.{Rings}
use Rattle.segment_file.specs.Heads.{Head}
use Rattle.segment_set.specs.Sets.{SetData}
use Rattle.explain_queries.specs.Explained.{Scope, Tells, TellsLine, bare, TellsNear, TellsOn, TellsReading, TellsShape}
use Rattle.explain_queries.specs.Explains.{InScope, IsExplaining}
use Rattle.run_status.specs.Told.{Told, refusal, IsTold}
use Rattle.explain_queries.proofs.Explaining.{Telling, tells_from, tells_to, some_inj}
use Rattle.explain_queries.proofs.ShapesTold.{tells_shape}
use Rattle.explain_queries.proofs.Nearby.{tells_near}

-- ---- over the index that is looked at

-- what is told of a query for a polygon, by its own crossings
abbrev pub tells_polygon : (rings : List (List (List ℤ))) → Telling
tells_polygon rings = λ s t. InScope s (λ i u. TellsShape i.dims s.heads i.docs (in_plane_polygon i.dims rings) (polygons.crosses i.dims (all_edges rings)) u) t

module _ (D : ℕ) (files : Files) (set : SetData) (s : Scope) (e : IsExplaining D files set s) (line : ℕ) (t : Told) where
  -- what is told in its scope is told of this index
  scoped : (tells : Index → Told → Type 0) → InScope s tells t → tells e.index t
  scoped tells (i, is, told) = subst (λ (j : Index). tells j t) (some_inj i e.index (sym is ∙ e.state)) told

  pub box_to : (asked : boxes.CountedBox) (lo hi : List ℤ) → asked ≡ record { bounds = record { lo = lo; hi = hi }; tests = 0; compares = 0 }
      → tells_shape (in_box asked.bounds) (boxes.crosses asked.bounds) s t → Tells s line (asks.InBox None lo hi) t
  box_to asked lo hi is tells = tells_to s e.index line (asks.InBox None lo hi) t e.state
      (subst (λ (b : Region). TellsShape e.index.dims s.heads e.index.docs (in_box b) (boxes.crosses b) t) (ap (λ (a : boxes.CountedBox). a.bounds) is)
      (scoped (λ i u. TellsShape i.dims s.heads i.docs (in_box asked.bounds) (boxes.crosses asked.bounds) u) tells))

  pub box_from : (asked : boxes.CountedBox) (lo hi : List ℤ) → asked ≡ record { bounds = record { lo = lo; hi = hi }; tests = 0; compares = 0 }
      → Tells s line (asks.InBox None lo hi) t → tells_shape (in_box asked.bounds) (boxes.crosses asked.bounds) s t
  box_from asked lo hi is tells = (
    e.index,
    e.state,
    subst (λ (b : Region). TellsShape e.index.dims s.heads e.index.docs (in_box b) (boxes.crosses b) t) (sym (ap (λ (a : boxes.CountedBox). a.bounds) is))
        (tells_from s e.index line (asks.InBox None lo hi) t e.state tells),
  )

  pub polygon_to : (edges : List EdgeEnds) (rings : List (List (List ℤ))) → edges ≡ all_edges rings
      → tells_shape (polygons.has D edges) (polygons.crosses D edges) s t → tells_polygon rings s t
  polygon_to edges rings is tells = (
    e.index,
    e.state,
    subst (λ n. TellsShape e.index.dims s.heads e.index.docs (in_plane_polygon n rings) (polygons.crosses n (all_edges rings)) t) (sym e.seen.dims)
        (subst (λ (es : List EdgeEnds). TellsShape e.index.dims s.heads e.index.docs (polygons.has D es) (polygons.crosses D es) t) is
        (scoped (λ i u. TellsShape i.dims s.heads i.docs (polygons.has D edges) (polygons.crosses D edges) u) tells)),
  )

  pub polygon_from : (edges : List EdgeEnds) (rings : List (List (List ℤ))) → edges ≡ all_edges rings
      → tells_polygon rings s t → tells_shape (polygons.has D edges) (polygons.crosses D edges) s t
  polygon_from edges rings is tells = (
    e.index,
    e.state,
    subst (λ (es : List EdgeEnds). TellsShape e.index.dims s.heads e.index.docs (polygons.has D es) (polygons.crosses D es) t) (sym is)
        (subst (λ n. TellsShape e.index.dims s.heads e.index.docs (in_plane_polygon n rings) (polygons.crosses n (all_edges rings)) t) e.seen.dims
        (scoped (λ i u. TellsShape i.dims s.heads i.docs (in_plane_polygon i.dims rings) (polygons.crosses i.dims (all_edges rings)) u) tells)),
  )

  pub in_polygon_to : (rings : List (List (List ℤ))) → tells_polygon rings s t → Tells s line (asks.InPolygon None rings) t
  in_polygon_to rings tells = tells_to s e.index line (asks.InPolygon None rings) t e.state
      (scoped (λ i u. TellsShape i.dims s.heads i.docs (in_plane_polygon i.dims rings) (polygons.crosses i.dims (all_edges rings)) u) tells)

  pub in_polygon_from : (rings : List (List (List ℤ))) → Tells s line (asks.InPolygon None rings) t → tells_polygon rings s t
  in_polygon_from rings tells = (e.index, e.state, tells_from s e.index line (asks.InPolygon None rings) t e.state tells)

  pub near_to : (k : ℕ) (at : List ℤ) → tells_near k at s t → Tells s line (asks.Nearest None k at) t
  near_to k at tells = tells_to s e.index line (asks.Nearest None k at) t e.state (scoped (λ i u. TellsNear i.dims s.heads i.docs k at u) tells)

  pub near_from : (k : ℕ) (at : List ℤ) → Tells s line (asks.Nearest None k at) t → tells_near k at s t
  near_from k at tells = (e.index, e.state, tells_from s e.index line (asks.Nearest None k at) t e.state tells)

-- a command that is neither blank nor a query is refused
pub other_told : {D : ℕ} (i : Index) (heads : List Head) (line : ℕ) (c : Command D) → (c ≡ command.Blank → ⊥)
    → ((view : View) (lo hi : Point D) → c ≡ command.InBox view lo hi → ⊥)
    → ((view : View) (rings : Rings) → c ≡ command.Polygon view rings → ⊥) → ((view : View) (k : ℕ) (at : Point D) → c ≡ command.Nearest view k at → ⊥)
    → TellsOn i heads line (request_of c) (refusal (refused_text line why.NotQuery))
other_told i heads line command.Blank blank box polygon near = absurd (blank refl)
other_told i heads line (command.InBox view lo hi) blank box polygon near = absurd (box view lo hi refl)
other_told i heads line (command.Polygon view rings) blank box polygon near = absurd (polygon view rings refl)
other_told i heads line (command.Nearest view k at) blank box polygon near = absurd (near view k at refl)
other_told i heads line (command.Create dims leaf_size) blank box polygon near = refl
other_told i heads line (command.Add points) blank box polygon near = refl
other_told i heads line (command.Delete doc) blank box polygon near = refl
other_told i heads line (command.DeleteBox lo hi) blank box polygon near = refl
other_told i heads line command.Flush blank box polygon near = refl
other_told i heads line command.Merge blank box polygon near = refl
other_told i heads line (command.MergeBegin positions) blank box polygon near = refl
other_told i heads line command.MergeEnd blank box polygon near = refl
other_told i heads line (command.Snapshot name) blank box polygon near = refl
other_told i heads line (command.Release name) blank box polygon near = refl
other_told i heads line command.Commit blank box polygon near = refl
other_told i heads line command.Reopen blank box polygon near = refl

-- ---- without an index

-- what is told of what was read is told of the line
pub first_told : (line : ℕ) (bytes : List ℕ) (reading : Reading) (before after : List ℕ) (t : Told) (is_refused : Bool) → read None bytes ≡ reading
    → TellsReading bare line reading t
    → after ≡ before ++ t.text → t.refused ≡ cond is_refused 1 0 → IsTold (TellsLine bare line bytes) before after is_refused
first_told line bytes reading before after t is_refused is tells grew refused = record {
  told = t;
  tells = subst (λ (r : Reading). TellsReading bare line r t) (sym is) tells;
  text = grew;
  refused = refused;
}
