use Rattle.std.proofs.Common.{refl, sym, subst, ap, length, ◌∙◌}
use Rattle.std.proofs.lemmas.Result.{err_from_is_err_and}
use Rattle.std.proofs.lemmas.List.{length_push}
use Rattle.tag.proofs.Lists.{same_push}
use Rattle.seats.specs.Seats.{AreFresh}
use Rattle.node_threads.specs.Joins.IsNotJoined.{NoMemory, Refused}
use Rattle.node_threads.proofs.Joining.{fresh_more}
use Rattle.node_threads.proofs.join.join_hall.Goals as goal

pub returns : goal.returns
returns g c =
    let more = same_push c.args.passes.now.items c.reserve.new.self.items c.push_reserved.new.self.items _ c.reserve.ensures.items
    c.push_reserved.ensures.items in
    record {
      fresh = subst (AreFresh c.args.client) (sym more)
          (fresh_more c.args.client c.args.passes.now.items _ c.requires
          (record {
            client = c.in_ok-pass.ensures.client;
            running = c.in_ok-pass.ensures.running;
            recorded =
                c.client.ensures.recorded;
            unused = c.in_ok-pass.ensures.rows.1;
          }));
      one = ap length more ∙ length_push c.args.passes.now.items _;
      none = tt;
      why = tt;
    }

pub returns-in_err-reserve-clause-fresh : goal.returns-in_err-reserve-clause-fresh
returns-in_err-reserve-clause-fresh g c = subst (AreFresh c.args.client) (sym c.reserve.ensures.items) c.requires

pub returns-in_err-free-clause-fresh : goal.returns-in_err-free-clause-fresh
returns-in_err-free-clause-fresh g c = subst (AreFresh c.args.client) (sym c.reserve.ensures.items) c.requires

pub returns-in_err-pass-clause-fresh : goal.returns-in_err-pass-clause-fresh
returns-in_err-pass-clause-fresh g c = subst (AreFresh c.args.client) (sym c.reserve.ensures.items) c.requires

pub returns-in_err-reserve-clause-why : goal.returns-in_err-reserve-clause-why
returns-in_err-reserve-clause-why g c =
    let p = err_from_is_err_and c.from_residual.result c.from_residual.ensures.1 in
    rw (p.1, p.2) (NoMemory refl)

pub returns-in_err-free-clause-why : goal.returns-in_err-free-clause-why
returns-in_err-free-clause-why g c =
    let p = err_from_is_err_and c.from_residual-in_err-free.result c.from_residual-in_err-free.ensures.1 in
    rw (p.1, p.2) (NoMemory refl)

pub returns-in_err-pass-clause-why : goal.returns-in_err-pass-clause-why
returns-in_err-pass-clause-why g c =
    let p = err_from_is_err_and c.from_residual-in_err-pass.result c.from_residual-in_err-pass.ensures.1 in
    rw (p.1, p.2) (Refused _ _ c.in_err-pass.ensures.why refl)
