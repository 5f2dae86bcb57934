-- The fields of a body, as a contract sees them.
use Rattle.update_grammar.specs.ReadUpdate as reading
use Rattle.update_codec.specs.declared.reading.fields.Fields.{Fields}

abbrev pub fields_view : Fields → reading.Fields
fields_view f = record { withdrawn = f.withdrawn.now; attributes = f.attributes.now; announced = f.announced.now }
