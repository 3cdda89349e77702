-- `start` meets its contract: turned away it leaves all words, else the layout filled with zeros and the head.
use mathlib.Core.Path.{ap, ◌∙◌}
use Rattle.layout.specs.Head.{with_head}
use Rattle.layout.specs.RefusalLaws.{err_kept}
use Rattle.decisions.specs.StartLaws.{go_start}
use Rattle.changes.specs.ReplyLaws.{start_away, start_done}
use Rattle.changes.proofs.start.Goals as goal

pub returns-in_err-settings : goal.returns-in_err-settings
returns-in_err-settings c = rw (err_kept c.from_residual.ensures.1) (start_away c.args.store.now c.in_err-settings.ensures)

pub clear_layout-requires : goal.clear_layout-requires
clear_layout-requires c =
    let g = go_start c.in_ok-settings.ensures in
    record { within = rw g.0 g.1.within; s_in_bounds = rw g.0 g.1.long }

pub returns : goal.returns
returns c =
    start_done c.args.store.now c.in_ok-settings.ensures c.fresh-fresh.ensures
    (c.write_head.ensures ∙ ap (with_head _) c.clear_layout.ensures)
