use Rattle.std.proofs.Common.{ap, ◌++◌, ◌∙◌, sym}
use Rattle.file_format.proofs.Spelling.{quoted_whole}
use Rattle.file_format.proofs.texts.append_quoted.Goals as goal

pub returns : goal.returns
returns c =
    let plain = sym c.is_plain.ensures ∙ c.if-not-is_plain.false in
    quoted_whole c.args.out.now.items c.args.before.now c.extend_from_slice.new.self.items c.push.new.self.items c.args.text.now
    c.extend_from_slice-2.new.self.items c.push-2.new.self.items plain c.in_ok-extend_from_slice.ensures.items
    c.in_ok-push.ensures.items (c.in_ok-extend_from_slice-2.ensures.items
    ∙ ap (λ s. c.push.new.self.items ++ s) c.as_bytes.ensures.value) c.in_ok-push-2.ensures.items
