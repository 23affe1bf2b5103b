-- What contracts see of the fields of a head as they are read.
use Rattle.std.specs.Prelude.{◌≡◌, ◌<◌, ◌^◌, ℕ, List, length}
use Rattle.inner_pack.specs.Bodies.{Body, IsSpelled}
use Rattle.page_cache.specs.Bodies.{padded_body}
use Rattle.segment_file.specs.Heads.{Fields, AreFields, fields_bytes}
use Rattle.segment_file.specs.declared.fields.HeadFields.{HeadFields}

abbrev pub fields_said : HeadFields → Fields
fields_said f = record {
  dims = f.dims;
  form = f.form;
  leaf_size = f.leaf_size;
  entries = f.entries;
  leaves = f.leaves;
  index_length = f.index_length;
  leaf_pages = f.leaf_pages;
}

-- each field fits the bytes that spell it
pub record AreNarrow (f : Fields) : Type 0 where
  pub leaf_size : f.leaf_size < 2 ^ 16
  pub entries : f.entries < 2 ^ 32
  pub leaves : f.leaves < 2 ^ 32
  pub index_length : f.index_length < 2 ^ 32
  pub leaf_pages : f.leaf_pages < 2 ^ 32

-- the payload of a first page has these fields, all in range
pub record HasFields (payload : List ℕ) (f : HeadFields) : Type 0 where
  pub are : AreFields (fields_said f)
  pub is : payload ≡ padded_body (fields_bytes (fields_said f))

-- the index is that of these fields, over these payloads
pub record IsIndexOf (D : ℕ) (f : HeadFields) (payloads : List ℕ) (index : Body) : Type 0 where
  pub form : index.form ≡ f.form
  pub leaves : index.leaves ≡ f.leaves
  pub len : length index.bytes ≡ f.index_length
  pub payloads_are : payloads ≡ padded_body index.bytes
  pub spelled : IsSpelled D index
