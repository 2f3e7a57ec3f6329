-- `places::column_at` meets its contract. Assumes nothing.
use Rattle.places.proofs.Characters as laws
use Rattle.places.proofs.column_at.Goals as goal

pub returns : goal.returns
returns c =
    let a = c.args in
    laws.column a.text.now a.at _ _ _ c.code_points.ensures.0 c.line_start-start.ensures.0
    c.place_in-end.ensures.0
