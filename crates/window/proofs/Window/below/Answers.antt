use Rattle.std.proofs.Common.{◌<◌, arith}
use Rattle.window.specs.Window.{window_places}
use Rattle.window.proofs.Places.{below_is}
use Rattle.window.proofs.Window.below.Goals as goal

pub overflow_add-result : goal.overflow_add-result
overflow_add-result g c =
    let s = c.self.inside in
    let n = c.place_count-places.result in
    let lt : c.args.place < window_places s.first s.count n = omega arith in
    let there = (below_is s.first s.count n c.args.place lt).there in
    let small = c.place_count-places.type_inv in
    omega arith
