use Rattle.world_settle.proofs.Brings.{majorities_most, needs_most}
use Rattle.world_settle.proofs.laws.a_call_needs_few_replicas.Goals as goal

pub returns-clause-quorums : goal.returns-clause-quorums
returns-clause-quorums c s name a b sound needs = needs_most s sound.sound.lawful name a b needs

pub returns-clause-majorities : goal.returns-clause-majorities
returns-clause-majorities c s n name a b sound is needs = majorities_most s sound.sound.lawful n name a b is needs
