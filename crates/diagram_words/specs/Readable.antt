-- What makes the words of a diagram readable: phrases of different things differ.
use Rattle.std.specs.Prelude.{ℕ, List, [], ◌∷◌}
use Rattle.diagram_words.specs.declared.phrases.TheConstants.{ANSWERS, ASKS, CALL_SIGN, COMMA}
use Rattle.diagram_words.specs.declared.phrases.TheConstants.{DELIVER, DONE, FINISH, FROM_CLIENT}
use Rattle.diagram_words.specs.declared.phrases.TheConstants.{FROM_REPLICA, HELD, HOLDS_SIGN}
use Rattle.diagram_words.specs.declared.phrases.TheConstants.{INVOKE, JOIN, KEEPS, KEPT, LOSE}
use Rattle.diagram_words.specs.declared.phrases.TheConstants.{MESSAGE_WORD, NOTES, OF, PUTS, READS}
use Rattle.diagram_words.specs.declared.phrases.TheConstants.{REPEAT, REPLICA_WORD, RESPOND, SEND}
use Rattle.diagram_words.specs.declared.phrases.TheConstants.{START_REPLICA, STOP_CLIENT}
use Rattle.diagram_words.specs.declared.phrases.TheConstants.{STOP_REPLICA, TO_CLIENT, TO_REPLICA}
use Rattle.diagram_words.specs.declared.phrases.TheConstants.{VOTES, WRITES}

-- the first words of commands
abbrev pub command_phrases : List (List ℕ)
command_phrases = JOIN.now ∷ INVOKE.now ∷ SEND.now ∷ DELIVER.now ∷ LOSE.now ∷ REPEAT.now
    ∷ RESPOND.now ∷ STOP_CLIENT.now ∷ STOP_REPLICA.now ∷ START_REPLICA.now ∷ FINISH.now ∷ []

-- what is said of messages, calls and replicas
abbrev pub said_phrases : List (List ℕ)
said_phrases = ASKS.now ∷ PUTS.now ∷ HELD.now ∷ KEPT.now ∷ READS.now ∷ WRITES.now ∷ NOTES.now
    ∷ ANSWERS.now ∷ DONE.now ∷ KEEPS.now ∷ []

-- what stands between these
abbrev pub joining_words : List (List ℕ)
joining_words = OF.now ∷ VOTES.now ∷ MESSAGE_WORD.now ∷ FROM_CLIENT.now ∷ FROM_REPLICA.now
    ∷ TO_CLIENT.now ∷ TO_REPLICA.now ∷ COMMA.now ∷ REPLICA_WORD.now ∷ CALL_SIGN.now
    ∷ HOLDS_SIGN.now ∷ []
