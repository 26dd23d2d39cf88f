use Rattle.std.proofs.Common.{inl}
use Rattle.std.proofs.lemmas.Bool.{MatchBool-at_true}
use Rattle.kept_writers.specs.Written.{AreNone, AreSome}
use Rattle.monitored_key.specs.Maps.{text_at}
use Rattle.monitored_key.proofs.Maps.{lacks_text, set_then_lacks}
use Rattle.monitored_key.proofs.by_value.forget_writer.Goals as goal

pub returns-then-forget_among : goal.returns-then-forget_among
returns-then-forget_among c = λ w is.
    let f = c.forget_among.ensures w is in
    let mid = c.forget_among.new.values in
    let new = c.remove.new.self in
    let text = c.args.text.now in (
      f.0,
      f.1,
      inl (
        MatchBool-at_true (AreNone f.0) (AreSome f.0) c.if-forget_among.true f.3,
        set_then_lacks (text_at c.args.values.now) text f.0 (text_at mid) (text_at new) f.2 (lacks_text mid new text
            c.remove.ensures.updates),
      ),
    )
