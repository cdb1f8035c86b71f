-- The blank view, the first pages, and the measures.
use Rattle.layout.specs.View.{put, fill, number, renew}
use Rattle.making.specs.Made.{named_view}
use Rattle.model.specs.Writing.{made_view}
use Rattle.making.proofs.lay_out.Goals as goal

pub returns : goal.returns
unfolding made_view named_view put fill number renew
returns c = rw (c.put_measures.ensures, c.name_pages.ensures, c.columns_word.ensures, c.requires.s_value.0)
