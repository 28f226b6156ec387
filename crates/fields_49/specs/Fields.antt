-- 49h: ephemeris of a satellite (000, Table 39). The first byte, the system, is no field: it chooses the layout.
use Rattle.std.specs.Prelude.{cond, List, [], ◌∷◌, ℕ, eqb, Result}
use Rattle.encoding.specs.Encoding.{decoded_as}
use Rattle.numbers.specs.Types.{int8u_at, int8s_at, int16u_at, fp32_at, fp64_at}
use Rattle.rows.specs.Layout.{Row, INT8U, INT8S, INT16U, FP32, FP64, joined}
use Rattle.fields_49.specs.declared.Gps.{Gps}
use Rattle.fields_49.specs.declared.Glonass.{Glonass}
use Rattle.fields_49.specs.declared.Ephemeris.{Ephemeris}

-- GPS, first byte 1: the fields, by their offsets
unfoldable pub fields_of_gps : List ℕ → Gps
fields_of_gps d = record {
  prn = int8u_at d 1;
  crs = fp32_at d 2;
  delta_n = fp32_at d 6;
  m0 = fp64_at d 10;
  cuc = fp32_at d 18;
  e = fp64_at d 22;
  cus = fp32_at d 30;
  sqrt_a = fp64_at d 34;
  toe = fp64_at d 42;
  cic = fp32_at d 50;
  omega0 = fp64_at d 54;
  cis = fp32_at d 62;
  i0 = fp64_at d 66;
  crc = fp32_at d 74;
  omega = fp64_at d 78;
  omega_dot = fp64_at d 86;
  idot = fp64_at d 94;
  tgd = fp32_at d 102;
  toc = fp64_at d 106;
  af2 = fp32_at d 114;
  af1 = fp32_at d 118;
  af0 = fp32_at d 122;
  ura = int16u_at d 126;
  iode = int16u_at d 128;
}

-- the rows, in their order
abbrev pub rows_of_gps : Gps → List Row
rows_of_gps f =
    INT8U 1
    ∷ INT8U f.prn
    ∷ FP32 f.crs
    ∷ FP32 f.delta_n
    ∷ FP64 f.m0
    ∷ FP32 f.cuc
    ∷ FP64 f.e
    ∷ FP32 f.cus
    ∷ FP64 f.sqrt_a
    ∷ FP64 f.toe
    ∷ FP32 f.cic
    ∷ FP64 f.omega0
    ∷ FP32 f.cis
    ∷ FP64 f.i0
    ∷ FP32 f.crc
    ∷ FP64 f.omega
    ∷ FP64 f.omega_dot
    ∷ FP64 f.idot
    ∷ FP32 f.tgd
    ∷ FP64 f.toc
    ∷ FP32 f.af2
    ∷ FP32 f.af1
    ∷ FP32 f.af0
    ∷ INT16U f.ura
    ∷ INT16U f.iode
    ∷ []

-- the data
unfoldable pub data_of_gps : Gps → List ℕ
data_of_gps f = joined (rows_of_gps f)

-- GLONASS, first byte 2: the fields, by their offsets
unfoldable pub fields_of_glonass : List ℕ → Glonass
fields_of_glonass d = record {
  number = int8u_at d 1;
  carrier = int8s_at d 2;
  x = fp64_at d 3;
  y = fp64_at d 11;
  z = fp64_at d 19;
  vx = fp64_at d 27;
  vy = fp64_at d 35;
  vz = fp64_at d 43;
  ax = fp64_at d 51;
  ay = fp64_at d 59;
  az = fp64_at d 67;
  tb = fp64_at d 75;
  gamma = fp32_at d 83;
  tau = fp32_at d 87;
  age = int16u_at d 91;
}

-- the rows, in their order
abbrev pub rows_of_glonass : Glonass → List Row
rows_of_glonass f =
    INT8U 2
    ∷ INT8U f.number
    ∷ INT8S f.carrier
    ∷ FP64 f.x
    ∷ FP64 f.y
    ∷ FP64 f.z
    ∷ FP64 f.vx
    ∷ FP64 f.vy
    ∷ FP64 f.vz
    ∷ FP64 f.ax
    ∷ FP64 f.ay
    ∷ FP64 f.az
    ∷ FP64 f.tb
    ∷ FP32 f.gamma
    ∷ FP32 f.tau
    ∷ INT16U f.age
    ∷ []

-- the data
unfoldable pub data_of_glonass : Glonass → List ℕ
data_of_glonass f = joined (rows_of_glonass f)

-- the fields, by the first byte; acceptable data has there 1 or 2
abbrev pub fields_of : List ℕ → Ephemeris
fields_of d = cond (eqb (int8u_at d 0) 1) (Ephemeris.Gps (fields_of_gps d)) (Ephemeris.Glonass (fields_of_glonass d))

-- the data
abbrev pub data_of : Ephemeris → List ℕ
data_of (Ephemeris.Gps f) = data_of_gps f
data_of (Ephemeris.Glonass f) = data_of_glonass f

-- what a decoding answers, by the data's refusal
abbrev pub decoded_of : List ℕ → Result Ephemeris ℕ
decoded_of = decoded_as 0x49 fields_of
