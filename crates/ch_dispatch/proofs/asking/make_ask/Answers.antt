use Rattle.ch_dispatch.proofs.asking.make_ask.Goals as goal

pub returns : goal.returns
returns g c =
    let ask = c.args.ask.now in
    let comes = c.make-made.ensures.comes in
    let settle = c.settle.ensures in
    let first = settle.settled ask c.requires.next.0 c.requires.next.1 comes in
    record {
      came = c.make-made.result;
      comes = comes;
      meaning = first.meaning;
      calls = c.make-made.ensures.calls;
      stands = first.stands;
      holds = settle.data;
      waits = λ rest awaits. (settle.settled ask rest awaits comes).waits;
      same = settle.same;
      used = settle.shards;
    }
