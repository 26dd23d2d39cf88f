use Rattle.std.proofs.Common.{List, ℕ, subst}
use Rattle.kept_writers.specs.Written.{HasBegin, Written}
use Rattle.monitored_key.specs.Maps.{Sets, text_at}
use Rattle.monitored_key.proofs.Maps.{sets_text}
use Rattle.monitored_key.proofs.by_value.add_first.Goals as goal
use Rattle.std.specs.String.{string_bytes}

pub returns : goal.returns
returns c =
    let old = c.args.values.now in
    let new = c.insert.new.self in
    let key = c.in_ok-from_str.field-0 in
    let w : Written = c.add.new.self in (
      w,
      subst (λ (x : Written). HasBegin x c.args.number c.args.place w) c.new-writers.ensures c.in_ok-add.ensures.ok,
      subst (λ (bs : List ℕ). Sets (text_at old) bs w (text_at new)) c.in_ok-from_str.ensures.ok
          (sets_text old new (string_bytes key) w c.in_ok-insert.ensures.updates),
    )
