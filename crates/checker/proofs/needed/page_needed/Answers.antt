-- `checker::needed::page_needed` meets its contract. Assumes nothing.
use Rattle.format.proofs.NodeQuestions.{nodes_of_lem}
use Rattle.checker.proofs.Twelve.{room_full, room_told}
use Rattle.checker.proofs.needed.page_needed.Goals as goal

pub returns-then-previous-gt236 : goal.returns-then-previous-gt236
returns-then-previous-gt236 c = room_full _ _ c.requires.0 c.requires.1 c.if-previous-gt236.true

pub first_nodes-requires : goal.first_nodes-requires
first_nodes-requires c = let p = c.requires in let ok = nodes_of_lem _ _ p.1 in (p.0, ok.some_roots, ok.few_roots, p.2, p.3)

pub returns : goal.returns
returns c = room_told _ _ _ _ c.first_nodes.ensures.0
