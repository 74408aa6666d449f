-- `request_answers::one_second::second` meets its contract: what its states mean is a law of the numbers that are put.
use Rattle.std.proofs.Common.{◌≡◌, rules}
use Rattle.request_answers.specs.Second.{second_given, numbers_after}
use Rattle.request_answers.specs.laws.SecondLaws.{given_means}
use Rattle.request_answers.proofs.one_second.second.Goals as goal

pub returns-clause-means : goal.returns-clause-means
unfolding second_given
returns-clause-means c =
    let a = c.args in
    let room : c.put_numbers.new.room ≡ numbers_after a.shape (second_given a.shape a.request.now a.second a.sines.now a.shadow.now) a.shadow.now = search rules in
    given_means a.shape a.request.now a.second a.sines.now a.shadow.now c.put_numbers.new.room room
