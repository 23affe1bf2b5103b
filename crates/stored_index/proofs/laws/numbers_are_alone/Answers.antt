use Rattle.stored_index.proofs.Places.{doc_of_place, place_of_doc, none_from_next, apart_from, alone_from}
use Rattle.stored_index.proofs.laws.numbers_are_alone.Goals as goal

pub returns-clause-below : goal.returns-clause-below
returns-clause-below c = none_from_next

pub returns-clause-apart : goal.returns-clause-apart
returns-clause-apart c = λ parts. (apart_from parts, alone_from parts)

pub returns-clause-live : goal.returns-clause-live
returns-clause-live c = λ files commit docs held number. (doc_of_place files commit docs held number, place_of_doc files commit docs held number)
