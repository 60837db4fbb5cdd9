use Rattle.std.proofs.Common.{◌≡◌, ◌∙◌, ap, sym, subst}
use Rattle.sc_cache.specs.Caches.{IsSoundCache, cache_data, displaced_by, with_kept}
use Rattle.sc_cache.proofs.CacheLemmas.{put_is, goes_for_new, nothing_goes}
use Rattle.sc_cache.proofs.cache.BlockCache.keep.Goals as goal
use Rattle.sc_cache.proofs.cache.BlockCache.keep.Goals.{then-is_new, else-is_new+in-Some-1, else-is_new+in-None-1}

pub returns-clause-displaced : goal.returns-clause-displaced
returns-clause-displaced g c =
    let id = c.args.id in
    let es = c.self.inside.blocks.entries in
    let n = c.self.inside.blocks.cap in
    let view : cache_data es n ≡ c.args.self.now = c.self.view_is in
    let sound : IsSoundCache (cache_data es n) =
    subst IsSoundCache (sym {a = cache_data es n} {b = c.args.self.now} view)
    c.is_sound.ensures in
    let now = ap (λ m. displaced_by m id) c.self.view_is in
    elim c.if-is_new.branch [
      | then-is_new w ↦
          rw w.result-is
          (c.in_ok-gone.ensures.old
          ∙ goes_for_new id es n c.args.block sound.within sound.some (sym w.if-is_new.ensures)
          ∙ now)
      | else-is_new+in-Some-1 w ↦
          rw w.result-is (nothing_goes id es n (sym w.if-is_new.ensures) ∙ now)
      | else-is_new+in-None-1 w ↦
          rw w.result-is (nothing_goes id es n (sym w.if-is_new.ensures) ∙ now)
    ]

pub returns-clause-kept : goal.returns-clause-kept
returns-clause-kept g c =
    let id = c.args.id in
    let es = c.self.inside.blocks.entries in
    let n = c.self.inside.blocks.cap in
    let view : cache_data es n ≡ c.args.self.now = c.self.view_is in
    let sound : IsSoundCache (cache_data es n) =
    subst IsSoundCache (sym {a = cache_data es n} {b = c.args.self.now} view)
    c.is_sound.ensures in
    let is : cache_data c.push.new.self.entries c.push.new.self.cap
    ≡ with_kept c.args.self.now id c.args.block =
    ap (λ l. cache_data l.entries l.cap)
    (c.in_ok-gone.ensures.entries ∙ put_is id es n c.args.block sound.within)
    ∙ ap (λ m. with_kept m id c.args.block) c.self.view_is in
    elim c.if-is_new.branch [
      | then-is_new w ↦ rw w.result-is is
      | else-is_new+in-Some-1 w ↦ rw w.result-is is
      | else-is_new+in-None-1 w ↦ rw w.result-is is
    ]
