-- `list_coding::Operands::token_at` meets its contract. Assumes nothing.
use Rattle.list_coding.proofs.There.{token-there, no_token}
use Rattle.list_coding.proofs.operands.Operands.token_at.Goals as goal

pub returns-then-k-self : goal.returns-then-k-self
returns-then-k-self c = token-there _ _ c.args.self.action c.args.k c.if-k-self.true c.operand_in.ensures c.token_in.ensures

pub returns : goal.returns
returns c = no_token _ _ c.args.self.action c.args.k c.if-k-self.false c.token_of.ensures
