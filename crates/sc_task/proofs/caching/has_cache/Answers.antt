use Rattle.std.proofs.Common.{◌∙◌, ap, sym}
use Rattle.std.specs.List.{list_any}
use Rattle.sc_lineage.specs.Views.{node_data_of}
use Rattle.sc_compute.specs.Caching.{is_cache}
use Rattle.sc_task.proofs.ListLemmas.{any-map}
use Rattle.sc_task.proofs.caching.has_cache.Goals as goal

pub returns : goal.returns
returns c =
    c.any_cache.ensures ∙ sym (any-map is_cache node_data_of c.nodes.result.now)
    ∙ ap (list_any is_cache) c.nodes.ensures
    ∙ ap (λ s. list_any is_cache s.nodes) c.script.ensures
