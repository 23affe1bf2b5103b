-- What the definitions see of an edge: its two ends, as lists of whole numbers.
use Rattle.ring_parity.specs.Edges.{EdgeEnds}
use Rattle.ring_parity.specs.declared.edges.Edge.{Edge}

abbrev pub ends_of : Edge → EdgeEnds
ends_of e = (e.a.c, e.b.c)
