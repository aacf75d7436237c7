-- Each turn replays one operation more.
use Rattle.std.proofs.Common.{◌≡◌, ◌+◌, ◌<◌, ◌≤◌, List, [], ◌∷◌, ◌++◌, length, take, vec_items, ap, arith}
use Rattle.std.proofs.lemmas.List.{take_all}
use Rattle.std.proofs.lemmas.Result.{err_from_is_err_and}
use Rattle.plain_model.specs.Machine.{replay}
use Rattle.plain_model.proofs.Replay.{replay_joins, replay_more}
use Rattle.plain.proofs.replay.replay.Goals as goal

pub returns-in_err-apply : goal.returns-in_err-apply
returns-in_err-apply g c =
    let p = err_from_is_err_and c.from_residual.result c.from_residual.ensures.1 in
    let so_far : g.M.PlainMachine.state c.loop-op.machine ≡ (replay g.M.PlainMachine.machine (take c.loop-op.op-index c.args.ops.now) (g.M.PlainMachine.state c.args.machine.now)).0 = ap (λ (r : g.M.PlainMachine.State × List g.row.M-Answer.Denot). r.0) c.loop-op.invariant in
    let unchanged : g.M.PlainMachine.state c.apply.new.self ≡ g.M.PlainMachine.state c.loop-op.machine = c.in_err-apply.ensures.0 in
    record { replayed = rw p.1 (cc (p.2, c.in_err-apply.ensures.1), (c.loop-op.op-index, omega arith, (cc))); joins = replay_joins g.M.PlainMachine.machine }

pub returns-in_err-push : goal.returns-in_err-push
returns-in_err-push g c =
    let p = err_from_is_err_and c.from_residual-in_err-push.result c.from_residual-in_err-push.ensures.1 in
    let within : c.loop-op.op-index < length c.args.ops.now = omega arith in
    let more = replay_more g.M.PlainMachine.machine c.args.ops.now c.loop-op.op-index c.op-item.result (g.M.PlainMachine.state c.args.machine.now) (g.M.PlainMachine.state c.loop-op.machine) (g.M.PlainMachine.state c.apply.new.self) (vec_items c.loop-op.answers) c.in_ok-apply.field-0 within c.op-item.is c.loop-op.invariant c.in_ok-apply.ensures in
    record { replayed = rw p.1 (p.2, (c.loop-op.op-index + 1, omega arith, ap (λ (r : g.M.PlainMachine.State × List g.row.M-Answer.Denot). r.0) more)); joins = replay_joins g.M.PlainMachine.machine }

pub loop-op-preserved : goal.loop-op-preserved
loop-op-preserved g c =
    let within : c.loop-op.op-index < length c.args.ops.now = omega arith in
    let more = replay_more g.M.PlainMachine.machine c.args.ops.now c.loop-op.op-index c.op-item.result (g.M.PlainMachine.state c.args.machine.now) (g.M.PlainMachine.state c.loop-op.machine) (g.M.PlainMachine.state c.apply.new.self) (vec_items c.loop-op.answers) c.in_ok-apply.field-0 within c.op-item.is c.loop-op.invariant c.in_ok-apply.ensures in
    let pushed : vec_items c.push.new.self ≡ vec_items c.loop-op.answers ++ c.in_ok-apply.field-0 ∷ [] = c.in_ok-push.ensures.items in
    cc

pub returns : goal.returns
returns g c =
    let whole : length c.args.ops.now ≤ c.loop-op.op-index = omega arith in
    let all = take_all c.loop-op.op-index c.args.ops.now whole in
    record { replayed = cc; joins = replay_joins g.M.PlainMachine.machine }
