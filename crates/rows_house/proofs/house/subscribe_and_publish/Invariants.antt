use Rattle.std.proofs.Common.{◌≡◌, length}
use Rattle.rows_house.proofs.house.subscribe_and_publish.Given as goal

abbrev pub invariant-loop : goal.invariant-loop
invariant-loop g l = record {
  house : l.desk.house ≡ l.fn.desk.house;
  caller : l.desk.caller ≡ l.fn.desk.caller;
  two : length l.desk.chans ≡ 2;
}
