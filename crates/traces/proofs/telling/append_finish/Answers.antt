use Rattle.std.proofs.lemmas.Result.{on_ok_weaker}
use Rattle.traces.specs.Traces.{finish_words, head_text}
use Rattle.sentences.proofs.Appending.{more}
use Rattle.traces.proofs.telling.append_finish.Goals as goal

pub returns : goal.returns
unfolding finish_words head_text
returns c = on_ok_weaker c.append_client.result (more c.args.text.now.items _ _ _ _ c.in_ok-append_head.ensures) c.append_client.ensures
