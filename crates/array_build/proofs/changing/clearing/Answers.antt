-- `changing::clearing` is safe: a call that goes on has a store that is long enough, and a tag of its own.
use Rattle.decisions.specs.Verdict.{more}
use Rattle.decisions.specs.ReadyLaws.{go_clear}
use Rattle.array_build.proofs.changing.clearing.Goals as goal

pub clear_tag-cleared-requires : goal.clear_tag-cleared-requires
clear_tag-cleared-requires c =
    let a = c.args in
    let t = go_clear (more c.is_some-renews.result) a.tag c.in_ok-found.ensures in
    record { held = t.time.ready.held; tag_lt_tags = t.has_tag }
