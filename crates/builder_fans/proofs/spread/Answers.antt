use mathlib.Core.Path.{◌≡◌, refl}
use Rattle.std.proofs.Common.{rules, Err}
use Rattle.table.specs.Parts.{lent}
use Rattle.builder_fans.proofs.Passes.{framed, parts_on}
use Rattle.builder_fans.proofs.Runs.{running_start, running_end, running_roomy, running_full, running_on}
use Rattle.builder_fans.proofs.spread.Goals as goal

pub loop-v-init : goal.loop-v-init
loop-v-init c = record { parts = (refl, refl, refl, refl, refl, refl); running = running_start c.args.room (lent c.args.t.now) c.requires.few }

pub one_vertex-requires : goal.one_vertex-requires
one_vertex-requires c = running_roomy _ _ _ _ _ c.loop-v.invariant.running c.requires

pub returns-in_err-one_vertex-clause-ended : goal.returns-in_err-one_vertex-clause-ended
returns-in_err-one_vertex-clause-ended c =
    let e : c.from_residual.result ≡ Err c.in_err-one_vertex.field-0.0 = search rules in
    let d = c.in_err-one_vertex.ensures.ended in
    let k = c.loop-v.invariant in
    rw e (
      d.0,
      running_full _ _ _ _ _ k.running c.loop-v-test.true d.1,
      framed (lent c.args.t.now) (lent c.loop-v.t) (lent c.one_vertex.new.t) _ k.running.frame d.2,
    )

pub loop-v-preserved : goal.loop-v-preserved
loop-v-preserved c =
    let k = c.loop-v in
    let w = c.one_vertex.ensures in
    record {
      parts = parts_on c.args.t.now k.t c.one_vertex.new.t k.invariant.parts w.parts;
      running = running_on _ _ _ _ _ k.invariant.running c.loop-v-test.true _ w.rooms c.in_ok-one_vertex.ensures.ended;
    }

pub returns-clause-ended : goal.returns-clause-ended
returns-clause-ended c = running_end _ _ _ _ _ c.loop-v.invariant.running c.loop-v-test.false
