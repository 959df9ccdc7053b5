-- `layout::write_header` meets its contract: the eight words, and those after them.
-- Assumes nothing.
use Rattle.layout.specs.Meaning.{put_header}
use Rattle.layout.proofs.write_header.Goals as goal

pub returns : goal.returns
unfolding put_header
returns c = rw (c.copy_from_slice.ensures.after, c.remembered_word.ensures, c.remembered_word-2.ensures)
