use Rattle.csv.specs.Records.{fields_of}
use Rattle.csv_load.proofs.Reading.{gave, gave_none}
use Rattle.csv_load.proofs.records.next_record.Goals as goal

pub returns-clause-more : goal.returns-clause-more
returns-clause-more c = λ found.
    let read = c.in-Ok.ensures.reads c.requires.untrimmed c.requires.ready in
    gave c.args.reader.now c.read_byte_record.new.self (fields_of c.read_byte_record.new.row) c.requires (rw found at read)
    (c.in-Ok.ensures.ready c.requires.untrimmed)

pub returns-clause-end : goal.returns-clause-end
returns-clause-end c = λ none.
    let read = c.in-Ok.ensures.reads c.requires.untrimmed c.requires.ready in
    gave_none c.args.reader.now c.read_byte_record.new.self (fields_of c.read_byte_record.new.row) c.requires (rw none at read)
