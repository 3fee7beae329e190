-- The two numbers, the core, the entries, data, the list.
use Rattle.page.proofs.Gained.{◌then◌}
use Rattle.rerunning.proofs.Entries.{many_more}
use Rattle.rerunning.proofs.going.put_state.Goals as goal

pub returns : goal.returns
returns c =
    let z = c.args.state in
    rw (many_more z.entered.now c.args.more.now)
    (c.put_number.ensures then c.put_number-2.ensures then c.put_text.ensures then (c.put_text-2.ensures then c.put_numbers.ensures)
    then c.put_text-3.ensures then c.put_text-4.ensures)
