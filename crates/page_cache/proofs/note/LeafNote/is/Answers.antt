use Rattle.page_cache.proofs.Notes.{same_note}
use Rattle.page_cache.proofs.note.LeafNote.is.Goals as goal

pub returns : goal.returns
returns c same =
    same_note c.args.self.now c.args.other.now c.if-self-other.false c.if-self-other-2.false c.if-self-other-3.false c.if-self-other-4.false
    (c.are_same.ensures c.if-not-are_same.false) (c.are_same-2.ensures same)
